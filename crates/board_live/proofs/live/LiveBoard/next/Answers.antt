use Rattle.std.proofs.Common.{◌≡◌, ap, sym, subst, ◌-◌, ◌<◌, ◌∙◌, List}
use Rattle.law_board.specs.Stretch.{IsStretch}
use Rattle.board_live.specs.LiveView.{LiveView}
use Rattle.board_live.proofs.live.LiveBoard.next.Goals as goal

pub returns-clause-quiet : goal.returns-clause-quiet
returns-clause-quiet g c = λ less.
    let p = g.P.Part in
    let b = c.self.inside.board in
    let alive = ap (λ (v : LiveView g.row.P.Denot). v.over) c.self.view_is ∙ c.requires in
    let further : b.cycle < c.next.result = subst (λ (v : LiveView g.row.P.Denot). v.cycle < c.next.result) (sym c.self.view_is) less in
    rw (← c.self.view_is) (subst (λ (ss : List p.State). IsStretch p.machine b.wiring b.inputs ss b.cycle (c.next.result - b.cycle)) (c.self.invariant.states_are alive) (c.next.ensures.quiet further))
