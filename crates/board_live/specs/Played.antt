-- A board that was run from cycle 0 in pieces. No public clause cites this.
use Rattle.std.specs.Prelude.{◌≡◌, ◌<◌, List, length, map, false, None}
use Rattle.part_law.specs.declared.part.Part.{Ghosts}
use Rattle.board_model.specs.Board.{states}
use Rattle.board_model.specs.Rows.{shown_before}
use Rattle.board_model.specs.Fits.{AreInputs}
use Rattle.board_run.specs.BoardView.{BoardView}
use Rattle.board_run.specs.Changes.{LastTells}

-- As long as it was not given up, it is what the board is that was stepped from these parts on with its values.
pub record IsPlayed {P : Type 0} (part : Ghosts P) (start : List P) (board : BoardView P) : Type 0 where
  pub are_inputs : AreInputs (length start) board.inputs
  pub states_are : board.given_up ≡ false → map part.state board.parts ≡ states part.machine board.wiring board.inputs (map part.state start) 0 board.cycle
  pub tells : board.given_up ≡ false → 0 < board.cycle → LastTells part.machine board.wiring board.inputs board.changed (map part.state start) 0 board.cycle
  pub shown_is : board.given_up ≡ false → board.before ≡ shown_before part.machine board.wiring board.inputs None (map part.state start) 0 board.cycle
