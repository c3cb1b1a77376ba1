use Rattle.std.proofs.Common.{◌+◌, length, ap, ◌∙◌}
use Rattle.wasm_validate.specs.Rules.{capped, imported_functions}
use Rattle.sim_base.specs.declared.fault.Place.TheVariants as places
use Rattle.wasm_validate.proofs.ModuleLemmas.{fails_here, typed_here, fails_later}
use Rattle.wasm_validate.proofs.bodies.fault_among.Goals as goal

pub returns-in-Some : goal.returns-in-Some
returns-in-Some c = c.loop-i.invariant.fails _ (fails_here c.args.space.now.module.now c.args.bodies.now c.loop-i.i c.index-bodies-i.result c.in-Some.failure.at _ c.loop-i-test.true c.index-bodies-i.is (rw c.in-Some.is at c.in_ok-failure.ensures) (ap (λ n. places.Code n (c.told.result)) c.function_number.ensures ∙ ap (λ n. places.Code (capped (length (imported_functions c.args.space.now.module.now.imports) + c.loop-i.i)) n) c.told.ensures))

pub loop-i-preserved : goal.loop-i-preserved
loop-i-preserved c =
    let t = rw c.in-None.is at c.in_ok-failure.ensures in
    record {
      typed = λ h. c.loop-i.invariant.typed (typed_here c.args.space.now.module.now c.args.bodies.now c.loop-i.i c.index-bodies-i.result c.loop-i-test.true c.index-bodies-i.is t h);
      fails = λ r h. c.loop-i.invariant.fails r (fails_later c.args.space.now.module.now c.args.bodies.now c.loop-i.i c.index-bodies-i.result r c.loop-i-test.true c.index-bodies-i.is t h);
    }
