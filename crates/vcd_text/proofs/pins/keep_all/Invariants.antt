use Rattle.std.proofs.Common.{◌≡◌, ◌++◌, length, take, drop}
use Rattle.vcd_text.specs.Pins.{with_drives}
use Rattle.vcd_text.proofs.pins.keep_all.Given as goal

abbrev pub invariant-loop-i : goal.invariant-loop-i
invariant-loop-i l = record {
  long : length l.pins ≡ length l.fn.pins;
  kept : take l.i l.pins ++ with_drives l.drives (drop l.i l.pins) ≡ with_drives l.drives l.fn.pins;
}
