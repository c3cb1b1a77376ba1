use Rattle.std.proofs.Common.{◌≡◌, true, List, ap, subst, ◌∙◌}
use Rattle.sim_base.specs.declared.signal.Level.{Level}
use Rattle.part_law.specs.declared.span.Span.{Span}
use Rattle.part_law.specs.Spans.{IsIn}
use Rattle.chip_host.specs.Turned.{HasGone}
use Rattle.chip_host.specs.Chip.{ChipAt, is_live_by, chip_drive}
use Rattle.chip_host.proofs.TurnLemmas.{taking, goes_on, goes_but, goes_none, alive}
use Rattle.chip_host.proofs.turns.Turns.engine_turn.Goals as goal

pub returns-in-Some-clause-state : goal.returns-in-Some-clause-state
returns-in-Some-clause-state c =
    let own = c.self.inside in
    let live : is_live_by own.dead ≡ true = alive own.dead c.if-is_some.ensures in
    let w = c.in-Some.ensures in
    let gone = subst (λ (ls : List Level). HasGone c.args.place ls own.host c.turn.new.self w.0 c.in-Some.turn) c.as_slice.ensures.value w.2 in
    c.serve_turn.ensures.state
    ∙ goes_on own.instance own.host c.turn.new.self own.budget own.dead own.wakes own.before.items c.args.place live w.0 c.in-Some.turn w.1 gone
    ∙ ap (λ (a : ChipAt). taking a c.args.place) c.self.view_is

pub returns-in-Some-clause-drives : goal.returns-in-Some-clause-drives
returns-in-Some-clause-drives c = λ i l out.
    let own = c.self.inside in
    let live : is_live_by own.dead ≡ true = alive own.dead c.if-is_some.ensures in
    let w = c.in-Some.ensures in
    let gone = subst (λ (ls : List Level). HasGone c.args.place ls own.host c.turn.new.self w.0 c.in-Some.turn) c.as_slice.ensures.value w.2 in
    let neither = c.both.ensures i out in
    c.serve_turn.ensures.drives i l neither.1
    ∙ goes_but own.instance own.host c.turn.new.self own.budget own.dead own.wakes own.before.items c.args.place live w.0 c.in-Some.turn w.1 gone i l (subst (λ (x : Span). ¬ IsIn x i) c.moved_at-own.ensures neither.0)
    ∙ ap (λ (a : ChipAt). chip_drive a.chip i) c.self.view_is

pub returns-in-None-clause-state : goal.returns-in-None-clause-state
returns-in-None-clause-state c =
    let own = c.self.inside in
    let live : is_live_by own.dead ≡ true = alive own.dead c.if-is_some.ensures in
    let w = c.in-None.ensures in
    goes_none own.instance own.host c.turn.new.self own.budget own.dead own.wakes own.before.items c.args.place live w.0 w.1
    ∙ ap (λ (a : ChipAt). taking a c.args.place) c.self.view_is
