use Rattle.net_resolve.proofs.Common.{◌≡◌, ℕ, drop, sum_at, resistors_add}
use Rattle.net_resolve.proofs.sums.add_resistors.Given as goal

-- what the resistors from i on add to the sums so far is what all add
abbrev pub invariant-loop-i : goal.invariant-loop-i
invariant-loop-i l = (a : ℕ) → resistors_add l.groups l.strong l.areas a (sum_at l.sums a) (drop l.i l.resistors)
    ≡ resistors_add l.groups l.strong l.areas a (sum_at l.fn.sums a) l.resistors
