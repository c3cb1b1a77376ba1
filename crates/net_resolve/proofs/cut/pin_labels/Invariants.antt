use Rattle.net_resolve.proofs.Common.{◌≡◌, map, take, slice_index}
use Rattle.net_resolve.proofs.cut.pin_labels.Given as goal

abbrev pub invariant-loop-k : goal.invariant-loop-k
invariant-loop-k l = l.keys.items ≡ map (slice_index l.labels) (take l.k l.net_of)
