use Rattle.std.proofs.Common.{◌≡◌, ◌++◌, take}
use Rattle.board_build.specs.Pins.{pairs_at}
use Rattle.board_build.proofs.wiring.add_pairs.Given as goal

abbrev pub invariant-loop-a : goal.invariant-loop-a
invariant-loop-a l = l.list ≡ l.fn.list ++ pairs_at l.first (take l.a-index l.pairs)
