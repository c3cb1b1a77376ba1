use Rattle.std.proofs.Common.{length}
use Rattle.chip_abi.proofs.imports.+same_types.Given as goal

abbrev pub decreases-same_types : goal.decreases-same_types
decreases-same_types l = length l.found.now
