-- The rows of a value that changes from cycle to cycle: from a row's cycle on, its value.
use Rattle.std.specs.Prelude.{ℕ, zero, suc, ◌-◌, ◌==◌, Bool, false, if◌then◌else◌, List, [], ◌∷◌, ◌++◌, length, take, Option, slice_get}
use Rattle.std.specs.Option.{option_map_or}

module _ {V : Type 0} (same : V → V → Bool) where
  -- a row at cycle 0, and at each later cycle in which the value differs from that of the cycle before
  abbrev pub row_at : (ℕ → V) → ℕ → List (ℕ × V)
  row_at f zero = (0, f 0) ∷ []
  row_at f (suc t) = if same (f t) (f (suc t)) then [] else (suc t, f (suc t)) ∷ []

  -- the rows of the first n cycles
  abbrev pub rows_to : (ℕ → V) → ℕ → List (ℕ × V)
  rows_to f zero = []
  rows_to f (suc t) = rows_to f t ++ row_at f t

-- How a reader keeps them, who learns of one change after another.
abbrev pub last_row : {V : Type 0} → List (ℕ × V) → Option (ℕ × V)
last_row rows = slice_get rows (length rows - 1)

abbrev pub ends_at : {V : Type 0} → List (ℕ × V) → ℕ → Bool
ends_at rows cycle = option_map_or (λ row. row.0 == cycle) (last_row rows) false

-- rows without one at this cycle, the greatest
abbrev pub without_row : {V : Type 0} → List (ℕ × V) → ℕ → List (ℕ × V)
without_row rows cycle = if ends_at rows cycle then take (length rows - 1) rows else rows

module _ {V : Type 0} (same : V → V → Bool) where
  abbrev pub ends_in : List (ℕ × V) → V → Bool
  ends_in rows value = option_map_or (λ row. same row.1 value) (last_row rows) false

  -- rows before this cycle, and its value
  abbrev pub with_row : List (ℕ × V) → ℕ → V → List (ℕ × V)
  with_row rows cycle value = if ends_in rows value then rows else rows ++ (cycle, value) ∷ []

  -- from this cycle on, the greatest, another value
  abbrev pub with_value : List (ℕ × V) → ℕ → V → List (ℕ × V)
  with_value rows cycle value = with_row (without_row rows cycle) cycle value
