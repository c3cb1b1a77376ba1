use Rattle.std.proofs.Common.{length}
use Rattle.chip_engines.proofs.list.+driven.Given as goal

abbrev pub decreases-driven : goal.decreases-driven
decreases-driven l = length l.places.now
