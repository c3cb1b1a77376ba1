use Rattle.std.proofs.Common.{◌≡◌, ◌≤◌, ◌+◌, ◌*◌, ◌++◌, drop, length}
use Rattle.text_model.specs.Wave.{value_lines}
use Rattle.vcd_text.proofs.changes.push_values.Given as goal

abbrev pub invariant-loop-i : goal.invariant-loop-i
invariant-loop-i l = record {
  text : l.out.text ++ value_lines l.i (drop l.i l.now) ≡ l.fn.out.text ++ value_lines 0 l.now;
  room : l.out.room ≡ l.fn.out.room;
  short : length l.out.text ≤ length l.fn.out.text + 4 * l.i;
}
