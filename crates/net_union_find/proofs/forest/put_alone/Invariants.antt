use Rattle.std.proofs.Common.{◌≡◌, take, length}
use Rattle.board_model.specs.Walks.{below}
use Rattle.net_union_find.proofs.forest.put_alone.Given as goal

abbrev pub invariant-loop-i : goal.invariant-loop-i
invariant-loop-i l = take l.i l.parents ≡ take l.i (below (length l.fn.parents))
