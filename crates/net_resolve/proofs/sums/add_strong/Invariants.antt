use Rattle.net_resolve.proofs.Common.{◌≡◌, ℕ, drop, ◌==◌, slice_index, zip, sum_at, added, strong_level}
use Rattle.net_resolve.proofs.sums.add_strong.Given as goal

-- what the pins from i on add to the sums so far is what all pins add
abbrev pub invariant-loop-i : goal.invariant-loop-i
invariant-loop-i l = (g : ℕ) → added strong_level (λ n. slice_index l.groups n == g) (sum_at l.sums g) (zip (drop l.i l.net_of) (drop l.i l.drives))
    ≡ added strong_level (λ n. slice_index l.groups n == g) (sum_at l.fn.sums g) (zip l.net_of l.drives)
