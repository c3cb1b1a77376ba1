use Rattle.std.proofs.Common.{length}
use Rattle.rows_calls.proofs.signatures.+fits.Given as goal

abbrev pub decreases-fits : goal.decreases-fits
decreases-fits l = length l.values.now
