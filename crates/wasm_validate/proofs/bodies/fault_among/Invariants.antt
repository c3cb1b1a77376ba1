use Rattle.std.proofs.Common.{drop}
use Rattle.sim_base.specs.declared.fault.Refusal.{Refusal}
use Rattle.wasm_validate.specs.Validity.{AllTyped, BodyFails}
use Rattle.wasm_validate.proofs.bodies.fault_among.Given as goal

abbrev pub invariant-loop-i : goal.invariant-loop-i
invariant-loop-i l = record {
  typed : AllTyped l.space.module.now l.i (drop l.i l.bodies) → AllTyped l.space.module.now 0 l.bodies;
  fails : (r : Refusal) → BodyFails l.space.module.now l.i (drop l.i l.bodies) r → BodyFails l.space.module.now 0 l.bodies r;
}
