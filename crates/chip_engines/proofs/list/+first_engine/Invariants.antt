use Rattle.std.proofs.Common.{length}
use Rattle.chip_engines.proofs.list.+first_engine.Given as goal

abbrev pub decreases-first_engine : goal.decreases-first_engine
decreases-first_engine l = length l.places.now
