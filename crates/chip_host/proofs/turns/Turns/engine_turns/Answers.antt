use Rattle.std.proofs.Common.{refl}
use Rattle.chip_host.proofs.MovedLemmas.{both_but}
use Rattle.chip_host.proofs.TurnLemmas.{none_behind, more_behind, all_behind}
use Rattle.chip_host.proofs.turns.Turns.engine_turns.Goals as goal

pub loop-place-init : goal.loop-place-init
loop-place-init c =
    let e = c.next_place-place.ensures in
    (none_behind c.args.self.now c.next_place-place.result e.passed, e.within, λ i l out. refl)

pub loop-place-preserved : goal.loop-place-preserved
loop-place-preserved c =
    let v = c.loop-place.invariant in
    let t = c.engine_turn.ensures in
    let e = c.next_place-place-in-loop-place.ensures in (
      more_behind c.args.self.now c.loop-place.self c.engine_turn.new.self c.loop-place.place c.next_place-place-in-loop-place.result v.0 t.state e.from e.passed,
      e.within,
      both_but c.loop-place.moved c.engine_turn.result c.both-moved.result c.args.self.now.chip c.loop-place.self.chip c.engine_turn.new.self.chip c.both-moved.ensures v.2 t.drives,
    )

pub returns-clause-state : goal.returns-clause-state
returns-clause-state c =
    let v = c.loop-place.invariant in
    all_behind c.args.self.now c.loop-place.self c.loop-place.place v.0 c.loop-place-test.false v.1 c.next_place-place.ensures.all
