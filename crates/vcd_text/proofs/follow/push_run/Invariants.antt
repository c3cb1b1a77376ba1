use Rattle.std.proofs.Common.{◌≤◌, ◌<◌, ◌-◌, ◌+◌, ◌*◌, ◌^◌, min, length, List, ℕ}
use Rattle.vcd_text.specs.Buffers.{BufferState}
use Rattle.vcd_text.specs.Chains.{IsNext, OnChain, IsRun}
use Rattle.vcd_text.specs.Written.{IsWritten}
use Rattle.vcd_text.proofs.follow.push_run.Given as goal

abbrev pub invariant-loop-at : goal.invariant-loop-at
invariant-loop-at l = record {
  order : l.fn.at ≤ l.at;
  room : length l.out.text + 4 * (l.bound - l.at) ≤ l.out.room;
  counts : l.count + (l.bound - l.at) < 2 ^ 64;
  next : (c : OnChain l.next (min l.fn.at l.bound) l.fn.at) → IsNext c.shows c.net (min l.at l.bound) l.at;
  written : (c : OnChain l.next (min l.fn.at l.bound) l.fn.at) (last new : List ℕ) (from : BufferState) → IsRun c.shows c.net last new l.fn.at l.bound l.value
      → IsWritten last new from (min l.fn.at l.bound) l.fn.count l.fn.values l.fn.out → IsWritten last new from (min l.at l.bound) l.count l.values l.out;
}

abbrev pub decreases-loop-at : goal.decreases-loop-at
decreases-loop-at l = l.bound - l.at
