use Rattle.board_run.proofs.Common.{◌∙◌, None, slice_set, get_set_other}
use Rattle.board_run.proofs.NextLemmas.{first_least}
use Rattle.board_run.proofs.jump.first_due_but.Goals as goal

pub returns-clause-due : goal.returns-clause-due
returns-clause-due c = λ k u other e.
    first_least (slice_set c.args.dues.now c.args.who None) c.first_but-first.result c.at_most.result c.first_but-first.ensures.first c.at_most.ensures.due k u
    (get_set_other c.args.dues.now c.args.who k None other ∙ e)
