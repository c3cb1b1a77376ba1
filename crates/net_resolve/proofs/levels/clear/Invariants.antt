use Rattle.net_resolve.proofs.Common.{◌≡◌, ℕ, ◌<◌, sum_at}
use Rattle.sim_base.specs.declared.signal.Level.TheVariants as levels
use Rattle.net_resolve.proofs.levels.clear.Given as goal

abbrev pub invariant-loop-i : goal.invariant-loop-i
invariant-loop-i l = (k : ℕ) → k < l.i → sum_at l.sums k ≡ levels.Z
