-- What callers see of a live board: all else follows from it.
use Rattle.std.specs.Prelude.{ℕ, List, Bool, Option, None, map}
use Rattle.sim_base.specs.declared.wiring.Wiring.{Wiring}
use Rattle.sim_base.specs.declared.wiring.Input.{Input}
use Rattle.sim_base.specs.Rows.{Row}
use Rattle.part_law.specs.declared.part.Part.{Ghosts}
use Rattle.board_model.specs.Board.{states, bytes}
use Rattle.board_model.specs.Rows.{Shown, shown_before, rows}
use Rattle.law_board.specs.Active.{active_cycles, active_pairs}

pub record LiveView (P : Type 0) : Type 0 where
  -- the parts at cycle 0
  pub start : List P
  pub wiring : Wiring
  -- all values that were given, in the order of their cycles
  pub inputs : List Input
  -- the cycle whose step comes next
  pub cycle : ℕ
  -- a live board is over once a write has failed
  pub over : Bool

-- Of the board that is stepped from cycle 0 with all these values, in the cycles before n: the states of its parts after them,
module _ {P : Type 0} (part : Ghosts P) (s : LiveView P) (n : ℕ) where
  abbrev pub states_by : List part.State
  states_by = states part.machine s.wiring s.inputs (map part.state s.start) 0 n

  -- what the last of them showed,
  abbrev pub shown_by : Option Shown
  shown_by = shown_before part.machine s.wiring s.inputs None (map part.state s.start) 0 n

  -- the rows,
  abbrev pub rows_by : List Row
  rows_by = rows part.machine s.wiring s.inputs None (map part.state s.start) 0 n

  -- the bytes,
  abbrev pub bytes_by : List ℕ
  bytes_by = bytes part.machine s.wiring s.inputs (map part.state s.start) 0 n

  -- and how many pairs of a cycle and an active part there are
  abbrev pub wakes_by : ℕ
  wakes_by = active_pairs part.machine s.wiring s.inputs (map part.state s.start) 0 n
