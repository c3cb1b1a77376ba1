use Rattle.std.proofs.Common.{◌≤◌, ◌-◌, length}
use Rattle.net_resolve.proofs.CutLemmas.{AreEmpty}
use Rattle.net_resolve.proofs.cut.empty_lists.Given as goal

abbrev pub invariant-loop-alloc : goal.invariant-loop-alloc
invariant-loop-alloc l = record { empty : AreEmpty l.lists; few : length l.lists ≤ l.count }

abbrev pub decreases-loop-alloc : goal.decreases-loop-alloc
decreases-loop-alloc l = l.count - length l.lists
