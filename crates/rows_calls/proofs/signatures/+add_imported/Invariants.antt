use Rattle.std.proofs.Common.{length}
use Rattle.rows_calls.proofs.signatures.+add_imported.Given as goal

abbrev pub decreases-add_imported : goal.decreases-add_imported
decreases-add_imported l = length l.imports.now
