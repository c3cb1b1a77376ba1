-- The rows of a run: one at cycle 0, and one at each cycle in which the level of a net or the drive of a chip's pin differs
-- from the cycle before (profile).
use Rattle.std.specs.Prelude.{ℕ, zero, suc, ◌+◌, List, [], ◌∷◌, ◌++◌, Bool, true, false, not, ◌&&◌, ◌==◌, Option, None, Some, if◌then◌else◌}
use Rattle.sim_base.specs.declared.signal.Drive.{Drive}
use Rattle.sim_base.specs.declared.signal.Drive.TheVariants as drives
use Rattle.sim_base.specs.declared.signal.Level.{Level}
use Rattle.sim_base.specs.declared.signal.Level.TheVariants as levels
use Rattle.sim_base.specs.declared.wiring.Wiring.{Wiring}
use Rattle.sim_base.specs.declared.wiring.Input.{Input}
use Rattle.sim_base.specs.Rows.{Row}
use Rattle.part_law.specs.Machine.{Machine}
use Rattle.board_model.specs.Board.{drives_of, levels_of, states}

abbrev pub same_level : Level → Level → Bool
same_level levels.Low levels.Low = true
same_level levels.High levels.High = true
same_level levels.X levels.X = true
same_level levels.Z levels.Z = true
same_level (levels.Wiped v) (levels.Wiped w) = v == w
same_level a b = false

abbrev pub same_drive : Drive → Drive → Bool
same_drive drives.Z drives.Z = true
same_drive drives.Low drives.Low = true
same_drive drives.High drives.High = true
same_drive drives.PullLow drives.PullLow = true
same_drive drives.PullHigh drives.PullHigh = true
same_drive (drives.Wiper v) (drives.Wiper w) = v == w
same_drive a b = false

-- whether two lists are of one length and the same at each place
abbrev pub same_list : {A : Type 0} → (A → A → Bool) → List A → List A → Bool
same_list same [] [] = true
same_list same (x ∷ xs) (y ∷ ys) = same x y && same_list same xs ys
same_list same xs ys = false

-- what decides on rows: the levels of all nets, and the drives of the chips' pins
pub record Shown : Type 0 where
  pub levels : List Level
  pub chip_drives : List Drive

abbrev pub same_shown : Shown → Shown → Bool
same_shown a b = same_list same_level a.levels b.levels && same_list same_drive a.chip_drives b.chip_drives

-- whether this differs from the cycle before; before cycle 0 there is none
abbrev pub is_new : Option Shown → Shown → Bool
is_new None now = true
is_new (Some before) now = not (same_shown before now)

module _ {S : Type 0} (m : Machine S) where
  -- the drives of those parts that are chips
  abbrev pub chip_drives_of : List Bool → List S → List Drive
  chip_drives_of [] ss = []
  chip_drives_of (chip ∷ chips) [] = []
  chip_drives_of (chip ∷ chips) (s ∷ ss) = (if chip then m.drives s else []) ++ chip_drives_of chips ss

  abbrev pub shown_of : Wiring → List S → Shown
  shown_of w ss = record { levels = levels_of m w ss; chip_drives = chip_drives_of w.chip ss }

  abbrev pub row_of : Wiring → List S → ℕ → Row
  row_of w ss t = record { cycle = t; levels = levels_of m w ss; drives = drives_of m ss }

  -- the row of cycle t, if it has one
  abbrev pub row_if : Wiring → Option Shown → List S → ℕ → List Row
  row_if w before ss t = if is_new before (shown_of w ss) then row_of w ss t ∷ [] else []

module _ {S : Type 0} (m : Machine S) (w : Wiring) (inputs : List Input) where
  -- what the cycle before c + n showed, where `before` is what the cycle before c did
  unfoldable pub shown_before : Option Shown → List S → ℕ → ℕ → Option Shown
  shown_before before ss c zero = before
  shown_before before ss c (suc n) = Some (shown_of m w (states m w inputs ss c n))

  -- the rows of the n cycles from c on
  unfoldable pub rows : Option Shown → List S → ℕ → ℕ → List Row
  rows before ss c zero = []
  rows before ss c (suc n) = rows before ss c n ++ row_if m w (shown_before before ss c n) (states m w inputs ss c n) (c + n)
