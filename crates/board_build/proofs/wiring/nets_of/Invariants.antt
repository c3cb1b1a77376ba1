use Rattle.std.proofs.Common.{◌≡◌, take}
use Rattle.board_build.specs.Plan.{nets_of_pairs}
use Rattle.board_build.proofs.wiring.nets_of.Given as goal

abbrev pub invariant-loop-a : goal.invariant-loop-a
invariant-loop-a l = l.nets ≡ nets_of_pairs l.net_of (take l.a-index l.pairs)
