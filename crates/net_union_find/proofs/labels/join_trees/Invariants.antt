use Rattle.net_union_find.proofs.PairLemmas.{Joining}
use Rattle.net_union_find.proofs.labels.join_trees.Given as goal

abbrev pub invariant-loop-i : goal.invariant-loop-i
invariant-loop-i l = Joining l.fn.parents l.pairs l.chosen l.i l.parents
