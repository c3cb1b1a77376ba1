use Rattle.board_run.proofs.NextLemmas.{first_least, first_one}
use Rattle.board_run.proofs.jump.first_due.Goals as goal

pub returns-clause-due : goal.returns-clause-due
returns-clause-due c = first_least c.args.dues.now c.first-first.result c.at_most.result c.first-first.ensures c.at_most.ensures.due

pub returns-clause-one : goal.returns-clause-one
returns-clause-one c = first_one c.args.dues.now c.first-first.result c.at_most.result c.args.n c.first-first.ensures c.at_most.ensures.one
