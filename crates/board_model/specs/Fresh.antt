-- Parts of which none was moved yet.
use Rattle.std.specs.Prelude.{◌≡◌, ℕ, List, true, Some, slice_get}
use Rattle.part_law.specs.Machine.{Machine}

-- the parts stand at cycle 0 in valid states, and none was woken
pub record AreFresh {S P : Type 0} (m : Machine S) (state : P → S) (now wakes : P → ℕ) (parts : List P) : Type 0 where
  pub at_start : (k : ℕ) (p : P) → slice_get parts k ≡ Some p → now p ≡ 0
  pub never_woken : (k : ℕ) (p : P) → slice_get parts k ≡ Some p → wakes p ≡ 0
  pub are_valid : (k : ℕ) (p : P) → slice_get parts k ≡ Some p → m.valid (state p) 0 ≡ true
