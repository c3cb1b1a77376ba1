use Rattle.board_run.proofs.Common.{ap, ◌==◌, shr_and_one}
use Rattle.board_run.proofs.part_set.PartSet.has.Goals as goal

pub returns : goal.returns
returns c = ap (λ b. b == 1) (shr_and_one c.args.self.bits c.args.i)
