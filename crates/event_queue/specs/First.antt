-- The first of the due cycles of several parts.
use Rattle.std.specs.Prelude.{◌≡◌, ℕ, ◌<◌, ◌≤◌, List, Option, None, Some, slice_get}

-- it is the least due cycle with the least part that has it; there is none exactly where no part has one
abbrev pub IsFirst : List (Option ℕ) → Option (ℕ × ℕ) → Type 0
IsFirst dues None = (k : ℕ) (d : Option ℕ) → slice_get dues k ≡ Some d → d ≡ None
IsFirst dues (Some (u, i)) = (slice_get dues i ≡ Some (Some u)) × ((k v : ℕ) → slice_get dues k ≡ Some (Some v) → (u ≤ v) × (k < i → u < v))
