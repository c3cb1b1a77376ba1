use Rattle.std.proofs.Common.{◌≡◌, drop}
use Rattle.wasm_exec.specs.Programs.{with_elements}
use Rattle.wasm_exec.proofs.table.put_segments.Given as goal

abbrev pub invariant-loop-segment : goal.invariant-loop-segment
invariant-loop-segment l = with_elements (drop l.segment-index l.segments) l.table ≡ with_elements l.segments l.initial.table
