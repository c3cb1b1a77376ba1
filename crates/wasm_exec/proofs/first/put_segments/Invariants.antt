use Rattle.std.proofs.Common.{◌≡◌, drop, length}
use Rattle.wasm_exec.specs.Programs.{with_segments}
use Rattle.wasm_exec.proofs.first.put_segments.Given as goal

abbrev pub invariant-loop-segment : goal.invariant-loop-segment
invariant-loop-segment l = record {
  bytes : with_segments (drop l.segment-index l.segments) l.memory.bytes ≡ with_segments l.segments l.initial.memory.bytes;
  size : length l.memory.bytes ≡ length l.initial.memory.bytes;
  limit : l.memory.limit ≡ l.initial.memory.limit;
}
