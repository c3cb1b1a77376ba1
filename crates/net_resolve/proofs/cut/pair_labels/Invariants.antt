use Rattle.net_resolve.proofs.Common.{◌≡◌, take, labels_of}
use Rattle.net_resolve.proofs.cut.pair_labels.Given as goal

abbrev pub invariant-loop-k : goal.invariant-loop-k
invariant-loop-k l = l.keys.items ≡ labels_of l.labels (take l.k l.pairs)
