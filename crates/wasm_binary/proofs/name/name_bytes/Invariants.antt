use Rattle.std.proofs.Common.{◌-◌, []}
use Rattle.wasm_binary.specs.Form.{byte}
use Rattle.wasm_binary.specs.Lists.{is_zero}
use Rattle.wasm_binary.specs.Names.{InName, judge_in_name, in_name}
use Rattle.wasm_binary.specs.NameViews.{spans_of}
use Rattle.wasm_binary.proofs.Runs.{HasRun}
use Rattle.wasm_binary.proofs.name.name_bytes.Given as goal

abbrev pub invariant-loop-i : goal.invariant-loop-i
invariant-loop-i l = HasRun (λ (s : InName). byte (judge_in_name s)) in_name (λ s. is_zero s.left) l.fn.reader l.reader (record { left = l.fn.count; tails = [] }) l.bytes.items (record { left = l.fn.count - l.i; tails = spans_of l.tails })
