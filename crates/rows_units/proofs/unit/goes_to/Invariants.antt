use Rattle.std.proofs.Common.{◌≡◌, ◌-◌}
use Rattle.rows_units.proofs.unit.goes_to.Given as goal

abbrev pub invariant-loop-turn : goal.invariant-loop-turn
invariant-loop-turn g l = record { here : (g.U.Unit.shows l.unit).cycle ≡ l.turn.cycle }

abbrev pub decreases-loop-turn : goal.decreases-loop-turn
decreases-loop-turn g l = l.to - l.turn.cycle
