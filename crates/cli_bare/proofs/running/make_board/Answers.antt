use Rattle.std.proofs.Common.{◌∙◌, ap, map}
use Rattle.avr_mcu.specs.Mcu.{McuAt}
use Rattle.board_run.specs.BoardView.{BoardView}
use Rattle.cli_bare.proofs.PlanLemmas.{is_wiring, no_inputs, uno_fits}
use Rattle.cli_bare.proofs.running.make_board.Goals as goal

pub new-requires-clause-wiring : goal.new-requires-clause-wiring
new-requires-clause-wiring c = rw c.requires is_wiring

pub new-requires-clause-fits : goal.new-requires-clause-fits
new-requires-clause-fits c = rw (c.requires, c.in-Ok.ensures.states) (uno_fits c.args.flash)

pub new-requires-clause-inputs : goal.new-requires-clause-inputs
new-requires-clause-inputs c = rw (c.requires, c.in-Ok.ensures.one) no_inputs
