use Rattle.std.proofs.Common.{◌≡◌, map}
use Rattle.board_model.specs.Walks.{below}
use Rattle.board_model.specs.Resolve.{level_of}
use Rattle.net_reference.proofs.plain.plain_levels.Given as goal

abbrev pub invariant-loop-n : goal.invariant-loop-n
invariant-loop-n l = l.levels ≡ map (level_of l.wiring.nets l.wiring.net_of l.wiring.contacts l.wiring.resistors l.closed l.drives) (below l.n)
