use Rattle.net_resolve.proofs.Common.{◌≡◌, take, map, length, below, level_here}
use Rattle.net_resolve.proofs.sums.put_levels.Given as goal

abbrev pub invariant-loop-n : goal.invariant-loop-n
invariant-loop-n l = take l.n l.levels ≡ take l.n (map (level_here l.groups l.strong l.areas l.sums) (below (length l.groups)))
