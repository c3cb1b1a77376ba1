use Rattle.net_resolve.proofs.Common.{◌≡◌, ℕ, ◌<◌, Some, slice_get}
use Rattle.net_resolve.proofs.nets.are_nets.Given as goal

abbrev pub invariant-loop-net : goal.invariant-loop-net
invariant-loop-net l = (k n : ℕ) → k < l.net-index → slice_get l.nets k ≡ Some n → n < l.count
