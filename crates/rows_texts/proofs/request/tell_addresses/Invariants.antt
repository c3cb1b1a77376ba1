use Rattle.std.proofs.Common.{length}
use Rattle.rows_texts.proofs.request.tell_addresses.Given as goal

abbrev pub decreases-loop-address : goal.decreases-loop-address
decreases-loop-address l = length l.addresses
