use Rattle.net_resolve.proofs.Common.{◌≡◌, map, take, own_pair}
use Rattle.net_resolve.proofs.cut.own_pairs.Given as goal

abbrev pub invariant-loop-j : goal.invariant-loop-j
invariant-loop-j l = l.own.items ≡ map (own_pair l.numbers l.pairs) (take l.j l.places)
