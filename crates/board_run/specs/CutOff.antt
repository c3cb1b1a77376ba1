-- How a write that fails cuts a run off.
use Rattle.std.specs.Prelude.{ℕ, ◌-◌, ◌≤◌, List, Bool, Option}
use Rattle.sim_base.specs.Rows.{Row, Handed, StopsWithin}
use Rattle.sim_base.specs.declared.wiring.Wiring.{Wiring}
use Rattle.sim_base.specs.declared.wiring.Input.{Input}
use Rattle.part_law.specs.Machine.{Machine}
use Rattle.board_model.specs.Board.{states, bytes, bytes_of}
use Rattle.board_model.specs.Rows.{Shown, shown_before, rows, row_if}

-- What cycle v shows of a board that began at cycle c.
module _ {S : Type 0} (m : Machine S) (w : Wiring) (inputs : List Input) (before : Option Shown) (ss : List S) (c v : ℕ) where
  abbrev pub row_in : List Row
  row_in = row_if m w (shown_before m w inputs before ss c (v - c)) (states m w inputs ss c (v - c)) v

  abbrev pub bytes_in : List ℕ
  bytes_in = bytes_of m w inputs (states m w inputs ss c (v - c)) v

-- A run from cycle c ended with cycle v, since a write of that cycle failed: the watcher was handed all that the cycles before v show, and of what v shows a first part.
pub record IsCutOff {S W : Type 0} (m : Machine S) (w : Wiring) (inputs : List Input) (before : Option Shown) (ss : List S) (c v : ℕ)
    (whole : W → Bool) (faults : W → ℕ) (stands stopped : W → List Row → List ℕ → Type 0) (old new : W) : Type 0 where
  pub between : W
  pub from : c ≤ v
  pub handed : Handed whole faults stands old between (rows m w inputs before ss c (v - c)) (bytes m w inputs ss c (v - c))
  pub stops : StopsWithin (stands between) (stopped new) (row_in m w inputs before ss c v) (bytes_in m w inputs before ss c v)
