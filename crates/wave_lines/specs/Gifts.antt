-- Which variables have a value in cycle 0, as a reader keeps it.
use Rattle.std.specs.Prelude.{ℕ, ◌≡◌, ◌<◌, ◌==◌, Bool, true, if◌then◌else◌, List, length, Some, slice_get, slice_set}
use Rattle.wave_lines.specs.Reading.{Change, is_given}

abbrev pub given_after : List Bool → ℕ → ℕ → List Bool
given_after given i cycle = if cycle == 0 then slice_set given i true else given

-- of so many variables, as changes say it
pub record AreGiven (count : ℕ) (said : List Change) (given : List Bool) : Type 0 where
  pub many : length given ≡ count
  pub each : (i : ℕ) → i < count → slice_get given i ≡ Some (is_given said i)
