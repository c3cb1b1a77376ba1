use Rattle.net_resolve.proofs.Common.{◌≡◌, ℕ, ◌<◌, Some, slice_get}
use Rattle.net_resolve.proofs.nets.are_pairs.Given as goal

abbrev pub invariant-loop-pair : goal.invariant-loop-pair
invariant-loop-pair l = (k : ℕ) (c : ℕ × ℕ) → k < l.pair-index → slice_get l.pairs k ≡ Some c → (c.0 < l.count) × (c.1 < l.count)
