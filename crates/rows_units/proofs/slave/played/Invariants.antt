use Rattle.chip_engines.specs.Engine.{IsEngine}
use Rattle.rows_units.proofs.slave.played.Given as goal

abbrev pub invariant-loop-word : goal.invariant-loop-word
invariant-loop-word l = record { sound : IsEngine l.engine }
