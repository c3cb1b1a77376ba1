use Rattle.std.proofs.Common.{◌≡◌}
use Rattle.rows_units.proofs.unit.played_awake.Given as goal

abbrev pub invariant-loop-word : goal.invariant-loop-word
invariant-loop-word g l = record { here : (g.U.Unit.shows l.unit).cycle ≡ l.turn.cycle }
