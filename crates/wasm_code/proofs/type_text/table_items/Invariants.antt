use Rattle.std.proofs.Common.{◌-◌, ℕ}
use Rattle.wasm_binary.specs.Lists.{is_zero}
use Rattle.wasm_binary.proofs.Runs.{HasRun}
use Rattle.wasm_code.specs.TypeText.{table_type}
use Rattle.wasm_code.proofs.type_text.table_items.Given as goal

abbrev pub invariant-loop-i : goal.invariant-loop-i
invariant-loop-i l = HasRun (λ (left : ℕ). table_type) (λ left x. left - 1) is_zero l.fn.reader l.reader l.fn.count l.tables (l.fn.count - l.i)
