use Rattle.cli_twin.proofs.Common.{◌≡◌, drop, same_list, same_pin}
use Rattle.cli_twin.proofs.sharing.same_pins.Given as goal

abbrev pub invariant-loop-i : goal.invariant-loop-i
invariant-loop-i l = same_list same_pin (drop l.i l.a) (drop l.i l.b) ≡ same_list same_pin l.a l.b
