use Rattle.net_resolve.proofs.Common.{length, below}
use Rattle.net_resolve.proofs.PlaceLemmas.{Put}
use Rattle.net_resolve.proofs.cut.number.Given as goal

abbrev pub invariant-loop-i : goal.invariant-loop-i
invariant-loop-i l = Put (below (length l.nets)) l.nets l.i l.fn.numbers l.numbers
