-- The places of the tree. Place 1 is the top, the places under k are 2 k and 2 k + 1, and part i of n parts is at n + i. No public clause cites this.
use Rattle.std.specs.Prelude.{◌≡◌, ◌≢◌, ℕ, ◌+◌, ◌-◌, ◌*◌, ◌/◌, ◌<◌, ◌≤◌, ◌⊎◌, List, length, Option, None, Some, slice_get, slice_set, nat_le, if◌then◌else◌, option_map, unwrap_or}
use Rattle.event_queue.specs.First.{IsFirst}
use Rattle.event_queue.specs.declared.entry.Entry.{Entry}

-- by cycle, then by part; parts that are not due come last
abbrev pub IsNotAfter : Entry → Entry → Type 0
IsNotAfter a b = (v : ℕ) → b.due ≡ Some v → (u : ℕ) × (a.due ≡ Some u) × ((u < v) ⊎ ((u ≡ v) × (a.part ≤ b.part)))

-- part i with its due cycle, if it has one
abbrev pub leaf : List (Option ℕ) → ℕ → Entry
leaf dues i = record { due = unwrap_or (slice_get dues i) None; part = i }

-- the cycle in which the part is due, with the part
abbrev pub with_cycle : Entry → Option (ℕ × ℕ)
with_cycle e = option_map (λ u. (u, e.part)) e.due

abbrev pub no_entry : Entry
no_entry = record { due = None; part = 0 }

-- what stands at place k of a tree of n parts
abbrev pub at_place : ℕ → List (Option ℕ) → List Entry → ℕ → Entry
at_place n dues best k = if nat_le n k then leaf dues (k - n) else unwrap_or (slice_get best k) no_entry

-- at place k stands the earlier of the two under it
pub record IsBest (n : ℕ) (dues : List (Option ℕ)) (best : List Entry) (k : ℕ) : Type 0 where
  pub one : (u : ℕ) → (at_place n dues best k).due ≡ Some u → (at_place n dues best k ≡ at_place n dues best (2 * k)) ⊎ (at_place n dues best k ≡ at_place n dues best (2 * k + 1))
  pub first : IsNotAfter (at_place n dues best k) (at_place n dues best (2 * k))
  pub second : IsNotAfter (at_place n dues best k) (at_place n dues best (2 * k + 1))

-- what would stand at a place on the way from part i to the top if that part were not due: in some tree all places but
-- the one above it would be right, and those that are not under it are as they stand
pub record IsWithout (dues : List (Option ℕ)) (stored : List Entry) (i place : ℕ) (found : Entry) : Type 0 where
  pub tree : List Entry
  pub long : length tree ≡ 64
  pub best : (k : ℕ) → 1 ≤ k → k < length dues → k ≢ place / 2 → IsBest (length dues) (slice_set dues i None) tree k
  pub here : at_place (length dues) (slice_set dues i None) tree place ≡ found
  pub beside : (k : ℕ) → k < 2 * place → k ≢ place → at_place (length dues) (slice_set dues i None) tree k ≡ at_place (length dues) dues stored k

-- a place that is not above the part that is alone
abbrev pub IsPlayed : Option ℕ → ℕ → ℕ → Type 0
IsPlayed alone n k = (j : ℕ) → alone ≡ Some j → k ≢ (n + j) / 2

-- none is due but the part that is alone
abbrev pub IsAlone : Option ℕ → List (Option ℕ) → Type 0
IsAlone alone dues = (j : ℕ) → alone ≡ Some j → (j < length dues) × IsFirst (slice_set dues j None) None
