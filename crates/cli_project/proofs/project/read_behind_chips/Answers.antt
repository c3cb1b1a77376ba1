use Rattle.cli_project.proofs.project.read_behind_chips.Goals as goal

pub returns-in-Ok-clause-got : goal.returns-in-Ok-clause-got
returns-in-Ok-clause-got g c = rw c.as_slice.ensures at (c.in-Ok.ensures.got c.args.flash c.args.drawn.1)

pub returns-in-Ok-clause-sound : goal.returns-in-Ok-clause-sound
returns-in-Ok-clause-sound g c = rw c.as_slice.ensures at (c.in-Ok.ensures.sound c.args.flash c.args.drawn.1)

pub returns-in-Err-clause-got : goal.returns-in-Err-clause-got
returns-in-Err-clause-got g c = rw c.as_slice.ensures at (c.in-Err.ensures.got c.args.flash c.args.drawn.1)
