use Rattle.cli_twin.proofs.Common.{◌≡◌, drop, other_pins}
use Rattle.cli_twin.proofs.sharing.other_pins.Given as goal

abbrev pub invariant-loop-i : goal.invariant-loop-i
invariant-loop-i l = other_pins (drop l.i l.files) (drop l.i l.one) (drop l.i l.other) ≡ other_pins l.files l.one l.other
