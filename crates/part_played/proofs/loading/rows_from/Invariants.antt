use Rattle.std.proofs.Common.{◌≡◌, take, drop}
use Rattle.part_played.proofs.loading.rows_from.Given as goal

abbrev pub invariant-loop-k : goal.invariant-loop-k
invariant-loop-k l = l.pins ≡ take l.k (drop l.first l.rows)
