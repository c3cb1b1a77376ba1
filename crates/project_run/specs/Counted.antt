-- What is counted of the wave of a run (profile).
use Rattle.std.specs.Prelude.{◌≡◌, ◌+◌, ℕ, None, length}
use Rattle.text_model.specs.Wave.{wave_count}
use Rattle.board_model.specs.Rows.{rows}
use Rattle.any_part.specs.AnyPart.{any}
use Rattle.any_part.specs.Start.{Contents, starts}
use Rattle.board_build.specs.declared.plan.Plan.{Plan}
use Rattle.chip_module.specs.Sources.{pins_of}
use Rattle.board_outputs.specs.Variables.{board_variables}
use Rattle.vcd_text.specs.Writers.{capped}
use Rattle.project_run.specs.Run.{run_bytes, run_wakes}

-- how many value changes the wave of the first n cycles has after the initial values, where the board of a plan has these
-- chips and this flash
abbrev pub run_changes : Contents → Plan → ℕ → ℕ
run_changes has plan n = wave_count (board_variables (pins_of has.chips) plan) (rows any plan.wiring plan.inputs None (starts has plan.parts) 0 n)

-- what a run was counted as: its value changes, its bytes, and the wakes that it added to those before
pub record IsCounted (has : Contents) (plan : Plan) (n changes sent before after : ℕ) : Type 0 where
  pub changes_are : changes ≡ capped (run_changes has plan n)
  pub sent_is : sent ≡ capped (length (run_bytes has plan n))
  pub wakes_are : after ≡ before + run_wakes has plan n
