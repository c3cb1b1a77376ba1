use Rattle.std.proofs.Common.{ap, arith, map, subst, sym, ◌<◌, ◌≤◌, ◌+◌, length, None}
use Rattle.board_live.specs.LiveView.{LiveView}
use Rattle.board_live.proofs.LiveLemmas.{played_given}
use Rattle.board_live.proofs.live.LiveBoard.give.Goals as goal

pub invariant_of-self : goal.invariant_of-self
invariant_of-self g c =
    let x = c.args.input in
    played_given g.P.Part c.self.inside.start.value c.self.inside.board c.give.new.self x c.give.result c.self.invariant
    (subst (λ (v : LiveView g.row.P.Denot). v.cycle ≤ x.cycle) (sym c.self.view_is) c.requires.later)
    (subst (λ (v : LiveView g.row.P.Denot). x.part < length v.start) (sym c.self.view_is) c.requires.part) c.give.ensures.ok c.give.ensures.err

pub returns-clause-past : goal.returns-clause-past
returns-clause-past g c = λ n early.
    rw (← c.self.view_is) (c.give.ensures.past 0 n None (map g.P.Part.state c.self.inside.start.value)
    (subst (λ (v : LiveView g.row.P.Denot). 0 + n ≤ v.cycle) (sym c.self.view_is) (omega (arith, early))))
