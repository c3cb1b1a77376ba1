use Rattle.board_run.proofs.PartLemmas.{with_is}
use Rattle.board_run.proofs.part_set.PartSet.with.Goals as goal

pub returns : goal.returns
returns c = λ k. with_is c.args.self.bits c.args.i k c.requires
