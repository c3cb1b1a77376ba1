-- Parts that lag behind their board, and their turn in a cycle.
use Rattle.std.specs.Prelude.{◌≡◌, ◌≢◌, ℕ, ◌+◌, ◌-◌, ◌<◌, ◌≤◌, List, length, map, Bool, true, false, not, ◌||◌, ◌==◌, Option, None, Some, slice_get, slice_set}
use Rattle.std.specs.Option.{is_some}
use Rattle.sim_base.specs.declared.signal.Level.{Level}
use Rattle.sim_base.specs.declared.wiring.Wiring.{Wiring}
use Rattle.sim_base.specs.declared.wiring.Input.{Input}
use Rattle.part_law.specs.Machine.{Machine, glide, IsQuiet, IsFirstDue}
use Rattle.board_model.specs.Board.{input_at, part_step, steps_from}
use Rattle.board_model.specs.Rows.{same_list, same_level}
use Rattle.board_model.specs.Fits.{Fits}
use Rattle.net_resolve.specs.NetsView.{NetsView}
use Rattle.law_board.specs.Alike.{Alike, SameShow}
use Rattle.law_board.specs.Active.{active_in, sum_below}
use Rattle.law_board.specs.Stands.{Stands}
use Rattle.board_run.specs.declared.part_set.PartSet.{PartSet}
use Rattle.board_run.specs.Parts.{has_part}
use Rattle.board_run.specs.ReadingView.{IsTold, levels_on}

abbrev pub is_at : Option ℕ → ℕ → Bool
is_at None t = false
is_at (Some u) t = u == t

-- whether a part is to be woken in cycle t: it is due, the script addresses it, or a level of its pins differs from the one that it holds
abbrev pub to_wake : Option ℕ → ℕ → Option ℕ → Bool → Bool
to_wake due t input differs = is_at due t || (is_some input || differs)

-- none of these is before cycle t
abbrev pub AreLate : List (Option ℕ) → ℕ → Type 0
AreLate dues t = (k u : ℕ) → slice_get dues k ≡ Some (Some u) → t ≤ u

module _ {S P : Type 0} (m : Machine S) (state : P → S) (now wakes : P → ℕ) where
  -- where the part is at cycle t, if nothing comes
  abbrev pub glided : ℕ → P → S
  glided t p = glide m (state p) (now p) (t - now p)

  -- it may be left behind up to cycle t, and this is its first due cycle
  pub record MayTurn (t : ℕ) (due : Option ℕ) (p : P) : Type 0 where
    pub not_later : now p ≤ t
    pub count : wakes p ≤ now p
    pub quiet : IsQuiet m (state p) (now p) (t - now p)
    pub first : IsFirstDue m (state p) (now p) due

  -- part k, with its due cycle
  abbrev pub MayTurnAt : ℕ → List P → List (Option ℕ) → ℕ → Type 0
  MayTurnAt t parts dues k = (p : P) (d : Option ℕ) → slice_get parts k ≡ Some p → slice_get dues k ≡ Some d → MayTurn t d p

  pub record Wakes (t : ℕ) (own : List Level) (input : Option ℕ) (p q : P) (byte : Option ℕ) (changed : Bool) : Type 0 where
    pub state_is : state q ≡ (m.step (glided t p) t own input).0
    pub byte_is : byte ≡ (m.step (glided t p) t own input).1
    pub now_is : now q ≡ t + 1
    pub woken : wakes q ≡ wakes p + 1
    pub drives : changed ≡ false → m.drives (state q) ≡ m.drives (glided t p)
    pub contacts : changed ≡ false → m.contacts (state q) ≡ m.contacts (glided t p)

  -- a turn in cycle t: it is woken, or left as it is
  abbrev pub turned : Bool → ℕ → List Level → Option ℕ → P → P → Option ℕ → Bool → Type 0
  turned true t own input p q byte changed = Wakes t own input p q byte changed
  turned false t own input p q byte changed = (q ≡ p) × (byte ≡ None)

  -- the pins that its turn in cycle t did not move drive what they would if nothing came
  abbrev pub OthersStay : (P → ℕ → Bool) → ℕ → P → P → Type 0
  OthersStay moves t p q = (pin : ℕ) → moves q pin ≡ false → slice_get (m.drives (state q)) pin ≡ slice_get (m.drives (glided t p)) pin

  -- each part of the list, with its due cycle
  abbrev pub AreDue : List P → List (Option ℕ) → Type 0
  AreDue parts dues = (k : ℕ) (p : P) (d : Option ℕ) → slice_get parts k ≡ Some p → slice_get dues k ≡ Some d → IsFirstDue m (state p) (now p) d

-- The parts lag behind a board whose states at cycle t are ts and whose nets have the levels ls; the script's values of the
-- cycle are `given`; and those parts differ one of whose levels is not the one that it holds.
pub record Awaits {S P : Type 0} (m : Machine S) (w : Wiring) (state : P → S) (now : P → ℕ) (given inputs : List Input) (ls : List Level) (differ : PartSet) (t : ℕ) (parts : List P) (ts : List S) : Type 0 where
  pub stands : Alike (λ k p s. Stands m t (now p) (state p) s) parts ts
  pub differs : (k : ℕ) (s : S) → slice_get ts k ≡ Some s → 0 < t → has_part differ k ≡ not (same_list same_level (levels_on m w ls k s) (m.held s))
  pub given_are : (k : ℕ) → input_at given t k ≡ input_at inputs t k

-- part k, which stands for s, had its turn
pub record HadTurn {S P : Type 0} (m : Machine S) (w : Wiring) (inputs : List Input) (state : P → S) (now wakes : P → ℕ) (ls : List Level) (t k : ℕ) (p q : P) (s : S) (byte : Option ℕ) (changed : Bool) : Type 0 where
  pub stands : Stands m (t + 1) (now q) (state q) (part_step m w inputs ls t k s).0
  pub woken : wakes q ≡ wakes p + active_in m w inputs ls t k (Some s)
  pub count : wakes q ≤ now q
  pub byte_is : byte ≡ (part_step m w inputs ls t k s).1
  pub still : changed ≡ false → SameShow m m (part_step m w inputs ls t k s).0 s

-- the parts before number i had their turn, and one drives or connects something else or none does
pub record Turns {S P : Type 0} (m : Machine S) (w : Wiring) (inputs : List Input) (state : P → S) (now wakes : P → ℕ) (ls : List Level) (t : ℕ) (ts : List S) (i : ℕ) (old new : List P) (answers : List (Option ℕ)) (changed : Bool) : Type 0 where
  pub done : (k : ℕ) (p q : P) (s : S) → k < i → slice_get old k ≡ Some p → slice_get new k ≡ Some q → slice_get ts k ≡ Some s →
      Stands m (t + 1) (now q) (state q) (part_step m w inputs ls t k s).0 × (wakes q ≡ wakes p + active_in m w inputs ls t k (Some s)) × (wakes q ≤ now q)
  pub answered : (k : ℕ) → k < i → slice_get answers k ≡ slice_get (map (λ r. r.1) (steps_from m w inputs ls t 0 ts)) k
  pub still : changed ≡ false → (k : ℕ) (s : S) → k < i → slice_get ts k ≡ Some s → SameShow m m (part_step m w inputs ls t k s).0 s
  pub other : changed ≡ true → (k : ℕ) × (s : S) × (k < i) × (slice_get ts k ≡ Some s) × (m.drives (part_step m w inputs ls t k s).0 ≡ m.drives s → m.contacts (part_step m w inputs ls t k s).0 ≢ m.contacts s)

-- whatever board the parts lag behind
module _ {S P : Type 0} (m : Machine S) (w : Wiring) (state : P → S) (now wakes : P → ℕ) where
  -- each had its turn in cycle t
  abbrev pub AllTurn : List Input → List Level → PartSet → ℕ → List P → List P → List (Option ℕ) → Bool → Type 0
  AllTurn given ls differ t old new answers changed = (inputs : List Input) (ts : List S) → Awaits m w state now given inputs ls differ t old ts
      → Turns m w inputs state now wakes ls t ts (length old) old new answers changed

  -- and those were counted that are active
  abbrev pub AreCounted : List Input → List Level → PartSet → ℕ → List P → ℕ → ℕ → Type 0
  AreCounted given ls differ t old steps more = (inputs : List Input) (ts : List S) → Awaits m w state now given inputs ls differ t old ts
      → more ≡ steps + sum_below (length old) (λ k. active_in m w inputs ls t k (slice_get ts k))

-- Part i of some parts was p and is q, which has as many pins and contacts; the nets were told what those before show.
pub record Replaced {S P : Type 0} (m : Machine S) (w : Wiring) (state : P → S) (i : ℕ) (old new : List P) (c : NetsView) (p q : P) : Type 0 where
  pub was : slice_get old i ≡ Some p
  pub new_is : new ≡ slice_set old i q
  pub pins : length (m.drives (state q)) ≡ length (m.drives (state p))
  pub ports : length (m.contacts (state q)) ≡ length (m.contacts (state p))
  pub fits : Fits m w (map state old)
  pub told : IsTold m (map state old) c

-- whether a part that was p and is q drives or connects something else
pub record Shifted {S P : Type 0} (m : Machine S) (state : P → S) (p q : P) (changed : Bool) : Type 0 where
  pub same : changed ≡ false → (m.drives (state q) ≡ m.drives (state p)) × (m.contacts (state q) ≡ m.contacts (state p))
  pub other : changed ≡ true → m.drives (state q) ≡ m.drives (state p) → m.contacts (state q) ≢ m.contacts (state p)

-- part i, which was p and due at d, is q after its turn on the levels of the nets
pub record TookTurn {S P : Type 0} (m : Machine S) (w : Wiring) (state : P → S) (now wakes : P → ℕ) (ls : List Level) (t i : ℕ) (input : Option ℕ) (differs : Bool) (d : Option ℕ) (p q : P) (byte : Option ℕ) (changed : Bool) : Type 0 where
  pub touched : Bool
  pub turn : turned m state now wakes (to_wake d t input differs) t (levels_on m w ls i (state p)) input p q byte touched
  pub shifted : Shifted m state p q changed
