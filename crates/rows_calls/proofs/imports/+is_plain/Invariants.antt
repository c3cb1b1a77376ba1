use Rattle.std.proofs.Common.{length}
use Rattle.rows_calls.proofs.imports.+is_plain.Given as goal

abbrev pub decreases-is_plain : goal.decreases-is_plain
decreases-is_plain l = length l.imports.now
