-- The board of a live board of a project (profile).
use Rattle.std.specs.Prelude.{Bool}
use Rattle.board_build.specs.declared.plan.Plan.{Plan}
use Rattle.chip_module.specs.Sources.{pins_of}
use Rattle.any_part.specs.AnyPart.{AnyState, any}
use Rattle.any_part.specs.Start.{Contents, starts}
use Rattle.board_outputs.specs.Variables.{board_variables}
use Rattle.board_report.specs.Report.{report_text}
use Rattle.live_model.specs.Board.{Setup}

-- the board of a plan whose parts have these contents
abbrev pub setup_of : Contents → Plan → Bool → Setup AnyState
setup_of has plan wave = record {
  machine = any;
  starts = starts has plan.parts;
  wiring = plan.wiring;
  parts = plan.parts;
  variables = board_variables (pins_of has.chips) plan;
  wave = wave;
  report = λ t states. report_text t plan.parts states;
}
