use Rattle.std.proofs.Common.{◌≡◌, ◌≤◌, ◌+◌, drop, length}
use Rattle.wave_lines.specs.Reading.{behind}
use Rattle.wave_lines.proofs.text.behind.Given as goal

abbrev pub invariant-loop-i : goal.invariant-loop-i
invariant-loop-i l = record {
  behind : behind l.number (drop l.i l.head) (drop l.i l.bytes) ≡ behind l.start l.head l.bytes;
  within : l.i ≤ length l.bytes;
  number : l.number ≤ l.i + l.start;
  first : l.start ≤ l.number;
}
