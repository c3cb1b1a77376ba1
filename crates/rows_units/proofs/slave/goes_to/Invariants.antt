use Rattle.std.proofs.Common.{◌-◌}
use Rattle.chip_engines.specs.Engine.{IsEngine}
use Rattle.rows_units.proofs.slave.goes_to.Given as goal

abbrev pub invariant-loop-turn : goal.invariant-loop-turn
invariant-loop-turn l = record { sound : IsEngine l.engine }

abbrev pub decreases-loop-turn : goal.decreases-loop-turn
decreases-loop-turn l = l.to - l.turn.cycle
