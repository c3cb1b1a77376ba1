-- Boards that differ in their custom chips (profile).
use Rattle.std.specs.Prelude.{◌≡◌, ℕ, List, [], Bool, true, false, Option, None, Some, slice_get, unwrap_or}
use Rattle.sim_base.specs.declared.signal.Level.{Level}
use Rattle.sim_base.specs.declared.wiring.Wiring.{Wiring}
use Rattle.part_law.specs.Machine.{Machine}
use Rattle.law_board.specs.Alike.{Alike}

-- whether part k is a custom chip
abbrev pub is_chip : Wiring → ℕ → Bool
is_chip w k = unwrap_or (slice_get w.chip k) false

-- the states of a kind of part that has no contacts and sends no bytes
pub record IsQuietKind {S : Type 0} (m : Machine S) (IsOf : S → Type 0) : Type 0 where
  pub stays : (s : S) (t : ℕ) (l : List Level) (i : Option ℕ) → IsOf s → IsOf (m.step s t l i).0
  pub no_contacts : (s : S) → IsOf s → m.contacts s ≡ []
  pub no_byte : (s : S) (t : ℕ) (l : List Level) (i : Option ℕ) → IsOf s → (m.step s t l i).1 ≡ None

-- each of these parts is in such a state
abbrev pub TheseAre : {S : Type 0} → (S → Type 0) → (ℕ → Bool) → List S → Type 0
TheseAre {S = S} IsOf these ss = (k : ℕ) (s : S) → these k ≡ true → slice_get ss k ≡ Some s → IsOf s

-- all parts but the chips are in the same states
abbrev pub SameRest : {S : Type 0} → Wiring → List S → List S → Type 0
SameRest w xs ys = Alike (λ k a b. is_chip w k ≡ false → a ≡ b) xs ys

-- the chips drive the same
abbrev pub SameChips : {S : Type 0} → Machine S → Wiring → List S → List S → Type 0
SameChips m w xs ys = Alike (λ k a b. is_chip w k ≡ true → m.drives a ≡ m.drives b) xs ys
