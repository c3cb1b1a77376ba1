use Rattle.cli_project.proofs.Common.{length, All-map, ChipSource}
use Rattle.board_build.specs.Pins.{IsShort}
use Rattle.cli_project.proofs.InputLemmas.{are_inputs}
use Rattle.cli_project.proofs.project.plan_board.Goals as goal

pub build-requires-clause-pins : goal.build-requires-clause-pins
build-requires-clause-pins c = rw (c.as_slice.ensures, c.in-Ok.ensures) (All-map IsShort (λ (chip : ChipSource). chip.pins) c.args.chips.now c.requires.pins)

pub returns-in-Ok-build-clause-inputs : goal.returns-in-Ok-build-clause-inputs
returns-in-Ok-build-clause-inputs c =
    are_inputs (length c.in-Ok-build.plan.parts) c.in-Ok-build.plan.inputs c.args.rows.now c.requires.rising c.in-Ok-build.ensures.cycles c.in-Ok-build.ensures.plan.for_parts
