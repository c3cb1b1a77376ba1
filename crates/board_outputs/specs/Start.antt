-- A board at cycle 0, and its run from there.
use Rattle.std.specs.Prelude.{◌≡◌, ◌+◌, ℕ, List, None, false, map}
use Rattle.sim_base.specs.Rows.{Row}
use Rattle.part_law.specs.declared.part.Part.{Ghosts}
use Rattle.board_model.specs.Board.{bytes, states}
use Rattle.board_model.specs.Rows.{rows}
use Rattle.law_board.specs.Active.{active_pairs}
use Rattle.board_run.specs.BoardView.{BoardView}

-- a board before its first cycle
pub record IsAtStart {P : Type 0} (board : BoardView P) : Type 0 where
  pub cycle : board.cycle ≡ 0
  pub alive : board.given_up ≡ false
  pub before : board.before ≡ None

module _ {P : Type 0} (part : Ghosts P) (board : BoardView P) (n : ℕ) where
  -- the rows of its first n cycles
  abbrev pub rows_in : List Row
  rows_in = rows part.machine board.wiring board.inputs None (map part.state board.parts) 0 n

  -- the bytes of these cycles
  abbrev pub bytes_in : List ℕ
  bytes_in = bytes part.machine board.wiring board.inputs (map part.state board.parts) 0 n

  -- the states of its parts after them
  abbrev pub states_in : List part.State
  states_in = states part.machine board.wiring board.inputs (map part.state board.parts) 0 n

  -- how many pairs of a cycle and a part there are in which the part is active
  abbrev pub wakes_in : ℕ
  wakes_in = active_pairs part.machine board.wiring board.inputs (map part.state board.parts) 0 n

  -- what it is after them, and the wakes that were counted before and after
  pub record HasRun (new : BoardView P) (before after : ℕ) : Type 0 where
    pub alive : new.given_up ≡ false
    pub parts : map part.state new.parts ≡ states_in
    pub wakes : after ≡ before + wakes_in
