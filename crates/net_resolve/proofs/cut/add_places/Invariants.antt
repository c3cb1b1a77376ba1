use Rattle.net_resolve.proofs.CutLemmas.{AreAdding}
use Rattle.net_resolve.proofs.cut.add_places.Given as goal

abbrev pub invariant-loop-k : goal.invariant-loop-k
invariant-loop-k l = AreAdding l.keys l.k l.lists
