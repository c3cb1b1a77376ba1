use Rattle.std.proofs.Common.{length, true}
use Rattle.std.specs.Prelude.{replicate}
use Rattle.net_union_find.proofs.PairLemmas.{Joining}
use Rattle.net_union_find.proofs.labels.join_each.Given as goal

abbrev pub invariant-loop-i : goal.invariant-loop-i
invariant-loop-i l = Joining l.fn.parents l.pairs (replicate (length l.pairs) true) l.i l.parents
