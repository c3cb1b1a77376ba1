use Rattle.std.proofs.Common.{◌≡◌, drop}
use Rattle.std.specs.Prelude.{◌||◌}
use Rattle.board_model.specs.Nets.{joined_by}
use Rattle.net_reference.proofs.plain.is_joined.Given as goal

abbrev pub invariant-loop-pair : goal.invariant-loop-pair
invariant-loop-pair l = (l.found || joined_by (drop l.pair-index l.pairs) l.n l.m) ≡ joined_by l.pairs l.n l.m
