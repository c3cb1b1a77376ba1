-- A run's own wave as what its chips are replaced by (profile).
use Rattle.std.specs.Prelude.{◌≡◌, ℕ, List, length, None, Ok, slice_get, option_map}
use Rattle.sim_base.specs.Rows.{Row}
use Rattle.text_model.specs.Wave.{Variable}
use Rattle.vcd_text.specs.Tracks.{wave_rows}
use Rattle.board_model.specs.Board.{states}
use Rattle.board_model.specs.Rows.{rows}
use Rattle.law_board.specs.Player.{DriveRows}
use Rattle.board_build.specs.declared.plan.Plan.{Plan}
use Rattle.board_build.specs.declared.plan.PlanPart.{PlanPart}
use Rattle.board_build.specs.Pins.{count_of}
use Rattle.chip_module.specs.Sources.{pins_of}
use Rattle.any_part.specs.AnyPart.{any}
use Rattle.any_part.specs.Start.{Contents, starts}
use Rattle.board_report.specs.Report.{part_text, rest_text}
use Rattle.board_outputs.specs.Variables.{board_variables}
use Rattle.project_run.specs.Run.{run_bytes, run_wave}
use Rattle.law_wave.specs.Read.{rows_of_part, written_rows}
use Rattle.law_isolation.specs.PlayRun.{play_bytes, play_rest, play_wave}

module _ (has : Contents) (plan : Plan) where
  -- what the wave shows
  abbrev pub shown : List Variable
  shown = board_variables (pins_of has.chips) plan

  -- how many pins part k has
  abbrev pub pins_at : ℕ → ℕ
  pins_at k = count_of (pins_of has.chips) (option_map (λ (part : PlanPart). part.kind) (slice_get plan.parts k))

  -- of what was read of all pins, the rows of part k
  abbrev pub part_of : List DriveRows → ℕ → List DriveRows
  part_of drives = rows_of_part plan.wiring pins_at drives

  module _ (n : ℕ) where
    abbrev pub run_rows : List Row
    run_rows = rows any plan.wiring plan.inputs None (starts has plan.parts) 0 n

    -- the report of the run but for the chips
    abbrev pub run_rest : List ℕ
    run_rest = rest_text part_text n plan.parts (states any plan.wiring plan.inputs (starts has plan.parts) 0 n)

    -- what is read of the wave of the run of n cycles
    pub record IsReplayed (drives : List DriveRows) : Type 0 where
      pub read : wave_rows shown (length plan.wiring.net_of) n (run_wave has plan n) ≡ Ok drives
      -- With players of it in place of the chips, the run writes the same wave, sends the same bytes, and leaves all other parts the same.
      pub wave : run_wave has plan n ≡ play_wave has plan n (part_of drives)
      pub bytes : run_bytes has plan n ≡ play_bytes has plan n (part_of drives)
      pub rest : run_rest ≡ play_rest has plan n (part_of drives)

    abbrev pub own_drives : List DriveRows
    own_drives = written_rows shown run_rows (length plan.wiring.net_of) n
