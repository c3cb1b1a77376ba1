use Rattle.std.proofs.Common.{◌-◌, ℕ}
use Rattle.wasm_binary.specs.Lists.{is_zero}
use Rattle.wasm_binary.proofs.Runs.{HasRun}
use Rattle.wasm_binary.proofs.lists.items.Given as goal

abbrev pub invariant-loop-i : goal.invariant-loop-i
invariant-loop-i g l = HasRun (λ (left : ℕ). g.T.Decode.form) (λ left x. left - 1) is_zero l.fn.reader l.reader l.fn.count l.items (l.fn.count - l.i)
