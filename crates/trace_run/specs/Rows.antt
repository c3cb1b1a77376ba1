-- Rows in the order of their cycles, how many are past, and the next of them (profile).
use Rattle.std.specs.Prelude.{◌≡◌, ℕ, ◌<◌, ◌≤◌, List, Bool, true, false, Option, None, Some, length, min, get_or, slice_get, slice_index}
use Rattle.std.specs.List.{list_any}
use Rattle.std.specs.List.Sorted.{IsNonDecreasingBy}
use Rattle.sim_base.specs.declared.signal.Drive.TheVariants as drives
use Rattle.law_board.specs.Player.{DriveRows, has_row}

-- their cycles do not fall
abbrev pub AreInOrder : DriveRows → Type 0
AreInOrder rows = IsNonDecreasingBy (λ row. row.0) rows

-- the cycle of row k
abbrev pub cycle_at : DriveRows → ℕ → ℕ
cycle_at rows k = (get_or rows k (0, drives.Z)).0

-- there are so many rows that stand at or before cycle t
pub record ArePast (rows : DriveRows) (t count : ℕ) : Type 0 where
  pub bound : count ≤ length rows
  pub past : (k : ℕ) → k < count → cycle_at rows k ≤ t

-- and the others stand behind it
pub record IsCount (rows : DriveRows) (t count : ℕ) : Type 0 where
  pub past : ArePast rows t count
  pub left : (k : ℕ) → count ≤ k → k < length rows → t < cycle_at rows k

-- of each pin
abbrev pub AreAllPast : List DriveRows → ℕ → List ℕ → Type 0
AreAllPast pins t counts = (i : ℕ) (rows : DriveRows) → slice_get pins i ≡ Some rows → ArePast rows t (slice_index counts i)

abbrev pub AreCounts : List DriveRows → ℕ → List ℕ → Type 0
AreCounts pins t counts = (i : ℕ) (rows : DriveRows) → slice_get pins i ≡ Some rows → IsCount rows t (slice_index counts i)

-- the first cycle behind c of which a test holds
abbrev pub IsNext : (ℕ → Bool) → ℕ → Option ℕ → Type 0
IsNext f c None = (v : ℕ) → c < v → f v ≡ false
IsNext f c (Some u) = (c < u) × (f u ≡ true) × ((v : ℕ) → c < v → v < u → f v ≡ false)

-- whether one of the pins has a row at a cycle
abbrev pub any_row : List DriveRows → ℕ → Bool
any_row pins t = list_any (λ rows. has_row rows t) pins

abbrev pub earlier : Option ℕ → Option ℕ → Option ℕ
earlier None b = b
earlier (Some u) None = Some u
earlier (Some u) (Some v) = Some (min u v)
