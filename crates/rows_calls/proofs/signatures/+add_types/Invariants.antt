use Rattle.std.proofs.Common.{length}
use Rattle.rows_calls.proofs.signatures.+add_types.Given as goal

abbrev pub decreases-add_types : goal.decreases-add_types
decreases-add_types l = length l.numbers.now
