use Rattle.net_resolve.proofs.Common.{◌≡◌, ℕ, drop, ◌==◌, ◌&&◌, slice_index, zip, sum_at, added, weak_level, is_loose}
use Rattle.net_resolve.proofs.sums.add_weak.Given as goal

-- what the pins from i on add to the sums so far is what all pins add
abbrev pub invariant-loop-i : goal.invariant-loop-i
invariant-loop-i l = (a : ℕ) → added weak_level (λ n. is_loose l.groups l.strong n && (slice_index l.areas n == a)) (sum_at l.sums a) (zip (drop l.i l.net_of) (drop l.i l.drives))
    ≡ added weak_level (λ n. is_loose l.groups l.strong n && (slice_index l.areas n == a)) (sum_at l.fn.sums a) (zip l.net_of l.drives)
