use Rattle.std.proofs.Common.{◌≡◌, ◌≤◌, ℕ, Some, map, take, length}
use Rattle.std.specs.Prelude.{slice_get}
use Rattle.wasm_code.specs.declared.types.FuncType.{FuncType}
use Rattle.wasm_exec.proofs.numbers.types_of.Given as goal

abbrev pub invariant-loop-number : goal.invariant-loop-number
invariant-loop-number l = record {
  so_far : map (λ t. Some t) l.found ≡ map (slice_get l.types) (take l.number-index l.numbers);
  few : (i : ℕ) (t : FuncType) → slice_get l.found i ≡ Some t → length t.params ≤ 16;
}
