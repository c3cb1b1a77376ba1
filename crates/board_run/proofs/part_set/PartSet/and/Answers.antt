use Rattle.board_run.proofs.PartLemmas.{and_is}
use Rattle.board_run.proofs.part_set.PartSet.and.Goals as goal

pub returns : goal.returns
returns c = λ k. and_is c.args.self.bits c.args.others.bits k
