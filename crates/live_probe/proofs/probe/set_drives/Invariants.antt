use Rattle.std.proofs.Common.{◌≡◌, length, take}
use Rattle.live_probe.proofs.probe.set_drives.Given as goal

abbrev pub invariant-loop-pin : goal.invariant-loop-pin
invariant-loop-pin l = record {
  rest : l.nets ≡ record l.fn.nets { drives = l.nets.drives };
  long : length l.nets.drives ≡ length l.fn.nets.drives;
  filled : take l.pin l.nets.drives ≡ take l.pin l.drives;
}
