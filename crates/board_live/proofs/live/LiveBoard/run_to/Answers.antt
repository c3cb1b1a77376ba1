use Rattle.std.proofs.Common.{◌≡◌, ap, arith, map, subst, sym, ◌<◌, ◌≤◌, ◌+◌, ◌∙◌, false, List, length, None}
use Rattle.board_live.specs.LiveView.{LiveView}
use Rattle.board_live.specs.Follows.{Follows}
use Rattle.board_live.proofs.LiveLemmas.{played_on, follows_on, stopped_on, pairs_on}
use Rattle.board_live.proofs.live.LiveBoard.run_to.Goals as goal

pub invariant_of-self : goal.invariant_of-self
invariant_of-self g c =
    let e = c.run.ensures in
    let alive = ap (λ (v : LiveView g.row.P.Denot). v.over) c.self.view_is ∙ c.requires.alive in
    let further : c.self.inside.board.cycle < c.args.n = omega (arith, c.cycle.ensures.value) in
    played_on g.P.Part c.self.inside.start.value c.self.inside.board c.run.new.self c.args.n c.run.result c.self.invariant alive further e.wiring e.inputs e.cycle e.given_up e.states e.before e.changed

pub returns-clause-follows : goal.returns-clause-follows
returns-clause-follows g c = λ is.
    let e = c.run.ensures in
    let alive = ap (λ (v : LiveView g.row.P.Denot). v.over) c.self.view_is ∙ c.requires.alive in
    let order = subst (λ (v : LiveView g.row.P.Denot). v.cycle ≤ c.args.n) (sym c.self.view_is) c.requires.order in
    let follows = subst (λ (v : LiveView g.row.P.Denot). Follows g.P.Part g.W.Watcher v c.args.out.now) (sym c.self.view_is) c.requires.follows in
    follows_on g.P.Part g.W.Watcher c.self.inside.start.value c.self.inside.board c.run.new.self c.self.invariant alive c.args.n order c.args.out.now c.run.new.out follows
    e.wiring e.inputs (e.cycle is) (e.before is) (e.handed is) (e.last is)

pub returns-clause-steps : goal.returns-clause-steps
returns-clause-steps g c = λ is.
    let b = c.self.inside.board in
    let alive = ap (λ (v : LiveView g.row.P.Denot). v.over) c.self.view_is ∙ c.requires.alive in
    let order = subst (λ (v : LiveView g.row.P.Denot). v.cycle ≤ c.args.n) (sym c.self.view_is) c.requires.order in
    let leg = pairs_on g.P.Part.machine b.wiring b.inputs (map g.P.Part.state c.self.inside.start.value) (map g.P.Part.state b.parts) b.before b.cycle c.args.n order (c.self.invariant.states_are alive) (c.self.invariant.shown_is alive) in
    let more = c.run.ensures.steps is in
    rw (← c.self.view_is) (omega (arith, leg, more))

pub returns-clause-stopped : goal.returns-clause-stopped
returns-clause-stopped g c = λ is.
    let alive = ap (λ (v : LiveView g.row.P.Denot). v.over) c.self.view_is ∙ c.requires.alive in
    let order = subst (λ (v : LiveView g.row.P.Denot). v.cycle ≤ c.args.n) (sym c.self.view_is) c.requires.order in
    let follows = subst (λ (v : LiveView g.row.P.Denot). Follows g.P.Part g.W.Watcher v c.args.out.now) (sym c.self.view_is) c.requires.follows in
    rw (← c.self.view_is) (stopped_on g.P.Part g.W.Watcher c.self.inside.start.value c.self.inside.board c.run.new.self c.self.invariant alive c.args.n order c.args.out.now c.run.new.out follows (c.run.ensures.failed is).1)
