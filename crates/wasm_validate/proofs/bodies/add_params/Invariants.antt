use Rattle.std.proofs.Common.{◌≡◌, ◌++◌, drop}
use Rattle.wasm_validate.proofs.bodies.add_params.Given as goal

abbrev pub invariant-loop-one : goal.invariant-loop-one
invariant-loop-one l = l.locals.items ++ drop l.one-index l.params ≡ l.fn.locals.items ++ l.params
