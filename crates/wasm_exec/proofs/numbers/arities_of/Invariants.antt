use Rattle.std.proofs.Common.{◌≡◌, map, take}
use Rattle.wasm_exec.specs.Compiled.{arity_at}
use Rattle.wasm_exec.proofs.numbers.arities_of.Given as goal

abbrev pub invariant-loop-number : goal.invariant-loop-number
invariant-loop-number l = l.found ≡ map (arity_at l.rows) (take l.number-index l.numbers)
