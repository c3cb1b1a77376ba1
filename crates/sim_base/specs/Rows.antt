-- The rows of a run, and what a watcher that is handed rows and bytes stands for.
use Rattle.std.specs.Prelude.{◌≡◌, ℕ, ◌<◌, eqb, List, ◌++◌, Bool, true, false, Option, slice_get}
use Rattle.std.specs.List.{list_any}
use Rattle.std.specs.Option.{ForSome}
use Rattle.sim_base.specs.declared.signal.Level.{Level}
use Rattle.sim_base.specs.declared.signal.Drive.{Drive}

-- a row: its cycle, the level of each net and the drive of each pin, all pins of part 0, then of part 1, and so on
pub record Row : Type 0 where
  pub cycle : ℕ
  pub levels : List Level
  pub drives : List Drive

-- each net but those of a list has the level that it had before
abbrev pub AreBut : List ℕ → List Level → List Level → Type 0
AreBut changed before after = (n : ℕ) → list_any (eqb n) changed ≡ false → slice_get after n ≡ slice_get before n

-- its last row, if there was one, was of a cycle before t and had these levels
abbrev pub IsBehind : {W : Type 0} → (W → Option ℕ) → (W → List Level → Type 0) → W → ℕ → List Level → Type 0
IsBehind last seen w t levels = ForSome (last w) (λ u. (u < t) × seen w levels)

-- who stood for rows and bytes stands for them with these appended
abbrev pub Appends : (List Row → List ℕ → Type 0) → (List Row → List ℕ → Type 0) → List Row → List ℕ → Type 0
Appends old new rows bytes = (rs : List Row) (bs : List ℕ) → old rs bs → new (rs ++ rows) (bs ++ bytes)

-- a first part of rows and of bytes
pub record AreFronts (r : List Row) (b : List ℕ) (rows : List Row) (bytes : List ℕ) : Type 0 where
  pub more_rows : List Row
  pub more_bytes : List ℕ
  pub whole_rows : r ++ more_rows ≡ rows
  pub whole_bytes : b ++ more_bytes ≡ bytes

-- who stood for rows and bytes has stopped within them with a first part of these appended
abbrev pub StopsWithin : (List Row → List ℕ → Type 0) → (List Row → List ℕ → Type 0) → List Row → List ℕ → Type 0
StopsWithin old new rows bytes = (r : List Row) × (b : List ℕ) × AreFronts r b rows bytes × Appends old new r b

-- a watcher was handed rows and bytes and nothing else, and is whole
pub record Handed {W : Type 0} (whole : W → Bool) (faults : W → ℕ) (stands : W → List Row → List ℕ → Type 0) (old new : W) (rows : List Row) (bytes : List ℕ) : Type 0 where
  pub is_whole : whole new ≡ true
  pub no_fault : faults new ≡ faults old
  pub appended : Appends (stands old) (stands new) rows bytes
