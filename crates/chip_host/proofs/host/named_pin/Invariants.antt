use Rattle.std.proofs.Common.{◌≡◌, drop}
use Rattle.std.specs.List.{position_from}
use Rattle.chip_host.specs.HostCall.{has_name}
use Rattle.chip_host.proofs.host.named_pin.Given as goal

abbrev pub invariant-loop-i : goal.invariant-loop-i
invariant-loop-i l = position_from (has_name l.text) l.i (drop l.i l.names) ≡ position_from (has_name l.text) 0 l.names
