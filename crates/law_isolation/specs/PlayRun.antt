-- The run of a plan in which each chip is replaced by a player of rows of drives (profile).
use Rattle.std.specs.Prelude.{◌⊎◌, ◌++◌, ℕ, List, true, None}
use Rattle.text_model.specs.Wave.{wave_text}
use Rattle.board_model.specs.Board.{bytes, states}
use Rattle.board_model.specs.Rows.{rows}
use Rattle.law_board.specs.Player.{DriveRows, PlayerState}
use Rattle.law_board.specs.Play.{or_player, played, recorded}
use Rattle.law_board.specs.Worlds.{is_chip}
use Rattle.sim_outcome_model.specs.Stop.{Texts}
use Rattle.board_build.specs.declared.plan.Plan.{Plan}
use Rattle.chip_module.specs.Sources.{pins_of}
use Rattle.any_part.specs.AnyPart.{AnyState, any}
use Rattle.any_part.specs.Start.{Contents, starts}
use Rattle.board_report.specs.Report.{part_text, parts_text, play_part_text, rest_text}
use Rattle.board_outputs.specs.Variables.{board_variables}
use Rattle.project_run.specs.Run.{run_wakes}
use Rattle.board_outputs.specs.Run.{Outputs, texts_for}

module _ (has : Contents) (plan : Plan) (n : ℕ) where
  -- the rows of each chip: its drives in each of the first n cycles of the run itself
  abbrev pub own_rows : ℕ → List DriveRows
  own_rows = recorded any plan.wiring plan.inputs (starts has plan.parts) n

  module _ (drive_rows : ℕ → List DriveRows) where
    -- the start states, with players of these rows in place of the chips
    abbrev pub play_starts : List (AnyState ⊎ PlayerState)
    play_starts = played (is_chip plan.wiring) drive_rows (starts has plan.parts)

    abbrev pub play_wave : List ℕ
    play_wave = wave_text (board_variables (pins_of has.chips) plan) (rows (or_player any) plan.wiring plan.inputs None play_starts 0 n) n

    abbrev pub play_bytes : List ℕ
    play_bytes = bytes (or_player any) plan.wiring plan.inputs play_starts 0 n

    -- the report but for the chips
    abbrev pub play_rest : List ℕ
    play_rest = rest_text play_part_text n plan.parts (states (or_player any) plan.wiring plan.inputs play_starts 0 n)

  -- the lines of the chips in the run itself
  abbrev pub chip_lines : List ℕ
  chip_lines = parts_text part_text true plan.parts (states any plan.wiring plan.inputs (starts has plan.parts) 0 n)

-- The texts of the board with a player of its own drives in place of each chip. A player has no line in the report: the lines
-- of the chips are those of the run itself, and so is the count of wakes.
abbrev pub play_texts : Outputs → Contents → Plan → ℕ → Texts
play_texts out has plan n =
    let drives = own_rows has plan n in
    texts_for out (play_wave has plan n drives) (play_bytes has plan n drives) (play_rest has plan n drives ++ chip_lines has plan n) (run_wakes has plan n)
