use Rattle.std.proofs.Common.{◌≡◌, drop}
use Rattle.std.specs.List.{position_from}
use Rattle.board_build.specs.Pins.{has_name}
use Rattle.board_build.proofs.pins.named_pin.Given as goal

abbrev pub invariant-loop-i : goal.invariant-loop-i
invariant-loop-i l = position_from (has_name l.pin) l.i (drop l.i l.names) ≡ position_from (has_name l.pin) 0 l.names
