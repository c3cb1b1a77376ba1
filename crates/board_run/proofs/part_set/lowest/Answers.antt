use Rattle.board_run.proofs.Common.{w64, bit_at-trailing_zeros}
use Rattle.board_run.proofs.part_set.lowest.Goals as goal

pub returns-clause-within : goal.returns-clause-within
returns-clause-within c = (bit_at-trailing_zeros w64 c.args.bits c.requires c.ranges.bits.fits).0

pub returns-clause-here : goal.returns-clause-here
returns-clause-here c = (bit_at-trailing_zeros w64 c.args.bits c.requires c.ranges.bits.fits).1

pub returns-clause-passed : goal.returns-clause-passed
returns-clause-passed c = (bit_at-trailing_zeros w64 c.args.bits c.requires c.ranges.bits.fits).2
