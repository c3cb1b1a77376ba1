use Rattle.std.proofs.Common.{length}
use Rattle.cli_project.proofs.chips.+read_more.Given as goal

abbrev pub decreases-read_more : goal.decreases-read_more
decreases-read_more g l = length l.chips.now
