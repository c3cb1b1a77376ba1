use Rattle.board_run.proofs.PartLemmas.{none_has}
use Rattle.board_run.proofs.part_set.PartSet.none.Goals as goal

pub returns-clause-none : goal.returns-clause-none
returns-clause-none c = none_has
