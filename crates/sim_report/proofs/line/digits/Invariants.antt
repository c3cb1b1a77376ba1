use Rattle.std.proofs.Common.{◌≡◌, ◌≤◌, ◌+◌, ◌*◌, ◌++◌, length, drop}
use Rattle.std.specs.List.{flat_map}
use Rattle.sim_report.specs.Lines.{hex_byte}
use Rattle.sim_report.proofs.line.digits.Given as goal

abbrev pub invariant-loop-b : goal.invariant-loop-b
invariant-loop-b l = record {
  text : l.line.items ++ flat_map hex_byte (drop l.b-index l.bytes) ≡ l.fn.line.items ++ flat_map hex_byte l.bytes;
  short : length l.line.items + 2 * length (drop l.b-index l.bytes) ≡ length l.fn.line.items + 2 * length l.bytes;
}
