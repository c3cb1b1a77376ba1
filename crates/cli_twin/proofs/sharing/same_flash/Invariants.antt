use Rattle.cli_twin.proofs.Common.{◌≡◌, true, same_below}
use Rattle.cli_twin.proofs.sharing.same_flash.Given as goal

abbrev pub invariant-loop-i : goal.invariant-loop-i
invariant-loop-i l = same_below l.i l.a l.b ≡ true
