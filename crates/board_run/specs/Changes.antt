-- Whether the last step changed what parts drive and connect, and when something comes next.
use Rattle.std.specs.Prelude.{◌≡◌, ◌≢◌, ◌⊎◌, ℕ, ◌-◌, ◌<◌, List, Bool, true, false, None, Some, slice_get}
use Rattle.sim_base.specs.declared.wiring.Wiring.{Wiring}
use Rattle.sim_base.specs.declared.wiring.Input.{Input}
use Rattle.part_law.specs.Machine.{Machine, glide}
use Rattle.board_model.specs.Board.{drives_of, contacts_of, levels_of, input_at, states}

-- whether a drive or a contact is another one
pub record Tells {S : Type 0} (m : Machine S) (changed : Bool) (old new : List S) : Type 0 where
  pub same : changed ≡ false → (drives_of m new ≡ drives_of m old) × (contacts_of m new ≡ contacts_of m old)
  pub other : changed ≡ true → drives_of m new ≡ drives_of m old → contacts_of m new ≢ contacts_of m old

-- whether the last of the n steps from cycle c on changed one
abbrev pub LastTells : {S : Type 0} → Machine S → Wiring → List Input → Bool → List S → ℕ → ℕ → Type 0
LastTells m w inputs changed ss c n = Tells m changed (states m w inputs ss c (n - 1)) (states m w inputs ss c n)

-- in cycle u a part is due that glides there from cycle c, or the script addresses one
abbrev pub HasEvent : {S : Type 0} → Machine S → List Input → List S → ℕ → ℕ → Type 0
HasEvent {S = S} m inputs ss c u = ((k : ℕ) × (s : S) × (slice_get ss k ≡ Some s) × (m.due (glide m s c (u - c)) u ≡ true)) ⊎ ((k : ℕ) × (input_at inputs u k ≢ None))

-- in each of the n cycles from c on the levels and the drives are those of the first of them
abbrev pub StaysSame : {S : Type 0} → Machine S → Wiring → List Input → List S → ℕ → ℕ → Type 0
StaysSame m w inputs ss c n = (t : ℕ) → t < n
    → (levels_of m w (states m w inputs ss c t) ≡ levels_of m w ss) × (drives_of m (states m w inputs ss c t) ≡ drives_of m ss)
