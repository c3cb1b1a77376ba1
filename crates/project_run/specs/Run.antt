-- The run of the board of a project for so many cycles: its wave, the bytes that its Uno sends, and its report (profile).
use Rattle.std.specs.Prelude.{◌≡◌, ℕ, List, map}
use Rattle.board_model.specs.Board.{states}
use Rattle.sim_outcome_model.specs.Stop.{Texts}
use Rattle.any_part.specs.AnyPart.{AnyPart, any, state_of}
use Rattle.chip_module.specs.Sources.{pins_of}
use Rattle.any_part.specs.Start.{Contents, starts}
use Rattle.board_build.specs.declared.plan.Plan.{Plan}
use Rattle.board_report.specs.Report.{report_text}
use Rattle.board_outputs.specs.Run.{Outputs, board_wave, board_bytes, board_wakes, texts_for}
use Rattle.board_outputs.specs.Start.{IsAtStart}
use Rattle.board_outputs.specs.Variables.{board_variables}
use Rattle.project_run.specs.declared.playing.Loaded.{Loaded}

-- The board of a plan from the start states of its parts, whose chips and flash are these.
module _ (has : Contents) (plan : Plan) (n : ℕ) where
  -- the wave of the first n cycles
  abbrev pub run_wave : List ℕ
  run_wave = board_wave any (pins_of has.chips) plan (starts has plan.parts) n

  -- the bytes of these cycles
  abbrev pub run_bytes : List ℕ
  run_bytes = board_bytes any plan (starts has plan.parts) n

  -- how the parts stand after them
  abbrev pub run_report : List ℕ
  run_report = report_text n plan.parts (states any plan.wiring plan.inputs (starts has plan.parts) 0 n)

  -- how many pairs of a cycle and a part there are in which the part is active
  abbrev pub run_wakes : ℕ
  run_wakes = board_wakes any plan (starts has plan.parts) n

abbrev pub run_texts : Outputs → Contents → Plan → ℕ → Texts
run_texts out has plan n = texts_for out (run_wave has plan n) (run_bytes has plan n) (run_report has plan n) (run_wakes has plan n)

-- the board of a plan whose parts have these contents, before its first cycle
pub record IsLoaded (has : Contents) (plan : Plan) (loaded : Loaded AnyPart) : Type 0 where
  pub start : IsAtStart loaded.board
  pub wiring : loaded.board.wiring ≡ plan.wiring
  pub inputs : loaded.board.inputs ≡ plan.inputs
  pub states : map state_of loaded.board.parts ≡ starts has plan.parts
  pub parts : loaded.parts ≡ plan.parts
  pub shown : loaded.head.variables ≡ board_variables (pins_of has.chips) plan
