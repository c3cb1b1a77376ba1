-- The nets of a plan: pins that wires and the joins inside parts connect (profile).
use Rattle.std.specs.Prelude.{◌≡◌, ℕ, ◌<◌, Bool, List, length, slice_get, ◌&&◌, ◌||◌, ◌==◌, ◌↔◌}
use Rattle.std.specs.List.{list_any}
use Rattle.board_model.specs.Walks.{Walk}

-- whether a pair names these two, in either direction
abbrev pub joins : ℕ × ℕ → ℕ → ℕ → Bool
joins pair n m = (pair.0 == n && pair.1 == m) || (pair.1 == n && pair.0 == m)

-- whether one of the pairs joins these two
abbrev pub joined_by : List (ℕ × ℕ) → ℕ → ℕ → Bool
joined_by pairs n m = list_any (λ pair. joins pair n m) pairs

-- Two pins have one net exactly where a walk over the joined pairs leads from one to the other.
abbrev pub AreNets : List (ℕ × ℕ) → List ℕ → Type 0
AreNets pairs net_of = (a b : ℕ) → a < length net_of → b < length net_of →
    (slice_get net_of a ≡ slice_get net_of b) ↔ Walk (joined_by pairs) a b
