use Rattle.std.proofs.Common.{◌≡◌, ◌++◌, drop}
use Rattle.wasm_validate.specs.Validity.{declared}
use Rattle.wasm_validate.proofs.bodies.add_locals.Given as goal

abbrev pub invariant-loop-run : goal.invariant-loop-run
invariant-loop-run l = l.locals.items ++ declared (drop l.run-index l.runs) ≡ l.fn.locals.items ++ declared l.runs
