use Rattle.std.proofs.Common.{◌≡◌, ap, arith, map, subst, sym, ◌<◌, ◌≤◌, ◌+◌, ◌-◌, ◌∙◌, false, List, length, None, refl}
use Rattle.std.proofs.lemmas.List.{append-nil}
use Rattle.board_model.specs.Board.{bytes}
use Rattle.board_live.specs.LiveView.{LiveView}
use Rattle.board_live.specs.Follows.{Follows}
use Rattle.board_live.proofs.LiveLemmas.{played_on, follows_on, stopped_on, pairs_on, silent_to, still_to}
use Rattle.board_live.proofs.live.LiveBoard.advance.Goals as goal

pub invariant_of-self : goal.invariant_of-self
invariant_of-self g c =
    let e = c.advance.ensures in
    let b = c.self.inside.board in
    let alive = ap (λ (v : LiveView g.row.P.Denot). v.over) c.self.view_is ∙ c.requires.alive in
    played_on g.P.Part c.self.inside.start.value b c.advance.new.self c.advance.new.self.cycle c.advance.result c.self.invariant alive e.further e.wiring e.inputs (λ _. refl) e.given_up (λ is. (e.went is).states_are) (λ is. (e.went is).before_is)
    (λ is. (e.went is).tells e.further)

pub returns-clause-follows : goal.returns-clause-follows
returns-clause-follows g c = λ is.
    let e = c.advance.ensures in
    let b = c.self.inside.board in
    let alive = ap (λ (v : LiveView g.row.P.Denot). v.over) c.self.view_is ∙ c.requires.alive in
    let order : b.cycle ≤ c.advance.new.self.cycle = omega (arith, e.further) in
    let follows = subst (λ (v : LiveView g.row.P.Denot). Follows g.P.Part g.W.Watcher v c.args.out.now) (sym c.self.view_is) c.requires.follows in
    follows_on g.P.Part g.W.Watcher c.self.inside.start.value b c.advance.new.self c.self.invariant alive c.advance.new.self.cycle order c.args.out.now c.advance.new.out follows
    e.wiring e.inputs refl (e.went is).before_is (e.handed is) (e.last is)

pub returns-clause-silent : goal.returns-clause-silent
returns-clause-silent g c =
    let e = c.advance.ensures in
    let b = c.self.inside.board in
    let alive = ap (λ (v : LiveView g.row.P.Denot). v.over) c.self.view_is ∙ c.requires.alive in
    let order : b.cycle ≤ c.advance.new.self.cycle - 1 = omega (arith, e.further) in
    rw (← c.self.view_is) (silent_to g.P.Part c.self.inside.start.value b c.self.invariant alive (c.advance.new.self.cycle - 1) order e.silent)

pub returns-clause-still : goal.returns-clause-still
returns-clause-still g c =
    let b = c.self.inside.board in
    let alive = ap (λ (v : LiveView g.row.P.Denot). v.over) c.self.view_is ∙ c.requires.alive in
    rw (← c.self.view_is) (still_to g.P.Part c.self.inside.start.value b c.self.invariant alive c.advance.new.self.cycle c.advance.ensures.still)

pub returns-clause-steps : goal.returns-clause-steps
returns-clause-steps g c = λ is.
    let b = c.self.inside.board in
    let alive = ap (λ (v : LiveView g.row.P.Denot). v.over) c.self.view_is ∙ c.requires.alive in
    let order : b.cycle ≤ c.advance.new.self.cycle = omega (arith, c.advance.ensures.further) in
    let leg = pairs_on g.P.Part.machine b.wiring b.inputs (map g.P.Part.state c.self.inside.start.value) (map g.P.Part.state b.parts) b.before b.cycle c.advance.new.self.cycle order (c.self.invariant.states_are alive) (c.self.invariant.shown_is alive) in
    let more = (c.advance.ensures.went is).steps_are in
    rw (← c.self.view_is) (omega (arith, leg, more))

pub returns-clause-stopped : goal.returns-clause-stopped
returns-clause-stopped g c = λ is.
    let b = c.self.inside.board in
    let alive = ap (λ (v : LiveView g.row.P.Denot). v.over) c.self.view_is ∙ c.requires.alive in
    let order : b.cycle ≤ c.advance.new.self.cycle = omega (arith, c.advance.ensures.further) in
    let follows = subst (λ (v : LiveView g.row.P.Denot). Follows g.P.Part g.W.Watcher v c.args.out.now) (sym c.self.view_is) c.requires.follows in
    rw (← c.self.view_is) (stopped_on g.P.Part g.W.Watcher c.self.inside.start.value b c.advance.new.self c.self.invariant alive c.advance.new.self.cycle order c.args.out.now c.advance.new.out follows (c.advance.ensures.failed is).1)
