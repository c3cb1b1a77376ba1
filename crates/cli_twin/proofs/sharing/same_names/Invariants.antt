use Rattle.cli_twin.proofs.Common.{◌≡◌, drop, bytes_eq, same_list, names_of}
use Rattle.cli_twin.proofs.sharing.same_names.Given as goal

abbrev pub invariant-loop-i : goal.invariant-loop-i
invariant-loop-i l = same_list bytes_eq (names_of (drop l.i l.a)) (names_of (drop l.i l.b)) ≡ same_list bytes_eq (names_of l.a) (names_of l.b)
