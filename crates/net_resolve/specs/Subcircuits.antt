-- Nets cut into subcircuits, which no contact and no resistor connects. No public clause cites this.
use Rattle.std.specs.Prelude.{◌≡◌, ℕ, ◌+◌, ◌<◌, ◌≤◌, ◌==◌, List, [], ◌∷◌, length, map, Bool, Some, slice_get, slice_index, slice_index_or, if◌then◌else◌}
use Rattle.std.specs.Prelude.{false}
use Rattle.sim_base.specs.declared.signal.Drive.{Drive}
use Rattle.sim_base.specs.declared.signal.Level.{Level}
use Rattle.board_model.specs.Resolve.{level_of}
use Rattle.sim_base.specs.declared.wiring.Wiring.{Wiring}
use Rattle.net_resolve.specs.WholeView.{WholeView, whole_with}
use Rattle.net_resolve.specs.Marked.{has}
use Rattle.board_model.specs.Pairs.{ArePairs}

-- no place of a list has n
abbrev pub Lacks : List ℕ → ℕ → Type 0
Lacks ns n = (j : ℕ) → slice_get ns j ≡ Some n → ⊥

-- no two places of a list have the same number
abbrev pub AreOnce : List ℕ → Type 0
AreOnce ns = (i j n : ℕ) → slice_get ns i ≡ Some n → slice_get ns j ≡ Some n → i ≡ j

-- the places at which a list has a key, where the first item's place is k
abbrev pub picked : ℕ → ℕ → List ℕ → List ℕ
picked key k [] = []
picked key k (x ∷ xs) = if x == key then k ∷ picked key (k + 1) xs else picked key (k + 1) xs

-- a subcircuit, in which its nets are numbered anew from 0
pub record SubcircuitView : Type 0 where
  pub nets : List ℕ
  -- its pins and its contacts, by their numbers on the board
  pub pins : List ℕ
  pub contacts : List ℕ
  -- the net of each of its pins, and what its contacts and resistors join, by the new numbers
  pub own_nets : List ℕ
  pub own_contacts : List (ℕ × ℕ)
  pub own_resistors : List (ℕ × ℕ)

-- a subcircuit as a board of its own
abbrev pub own_whole : SubcircuitView → WholeView
own_whole s = whole_with (length s.nets) s.own_nets s.own_contacts s.own_resistors

abbrev pub whole_of : Wiring → WholeView
whole_of w = whole_with w.nets w.net_of w.contacts w.resistors

-- Each net has the number of its subcircuit, and what is joined has the same one.
pub record IsCut (w : WholeView) (labels : List ℕ) : Type 0 where
  pub long : length labels ≡ w.nets
  pub below : (n : ℕ) → slice_index labels n ≤ n
  pub pins_within : (k n : ℕ) → slice_get w.net_of k ≡ Some n → n < w.nets
  pub contacts_within : ArePairs w.nets w.contacts
  pub resistors_within : ArePairs w.nets w.resistors
  pub contacts_joined : (k : ℕ) (c : ℕ × ℕ) → slice_get w.contacts k ≡ Some c → slice_index labels c.0 ≡ slice_index labels c.1
  pub resistors_joined : (k : ℕ) (r : ℕ × ℕ) → slice_get w.resistors k ≡ Some r → slice_index labels r.0 ≡ slice_index labels r.1

-- the pairs at some places of a list, by the new numbers of the nets
pub record AreOwn (nets : List ℕ) (whole : List (ℕ × ℕ)) (places : List ℕ) (own : List (ℕ × ℕ)) : Type 0 where
  pub long : length own ≡ length places
  pub each : (j k : ℕ) (c o : ℕ × ℕ) → slice_get places j ≡ Some k → slice_get whole k ≡ Some c → slice_get own j ≡ Some o → (slice_get nets o.0 ≡ Some c.0) × (slice_get nets o.1 ≡ Some c.1)

-- the new numbers of the nets of the pair at place k
abbrev pub own_pair : List ℕ → List (ℕ × ℕ) → ℕ → ℕ × ℕ
own_pair numbers pairs k = (slice_index numbers (slice_index_or pairs k (0, 0)).0, slice_index numbers (slice_index_or pairs k (0, 0)).1)

-- the numbers of the subcircuits of pairs
abbrev pub labels_of : List ℕ → List (ℕ × ℕ) → List ℕ
labels_of labels pairs = map (λ c. slice_index labels c.0) pairs

-- the subcircuit with number q
pub record IsSubcircuit (w : WholeView) (labels : List ℕ) (q : ℕ) (s : SubcircuitView) : Type 0 where
  pub nets_are : s.nets ≡ picked q 0 labels
  pub pins_are : s.pins ≡ picked q 0 (map (slice_index labels) w.net_of)
  pub contacts_are : s.contacts ≡ picked q 0 (labels_of labels w.contacts)
  pub own_nets_are : map (slice_get s.nets) s.own_nets ≡ map (slice_get w.net_of) s.pins
  pub own_contacts_are : AreOwn s.nets w.contacts s.contacts s.own_contacts
  pub own_resistors_are : AreOwn s.nets w.resistors (picked q 0 (labels_of labels w.resistors)) s.own_resistors

-- each pin on one of its nets is among its pins
abbrev pub HasAllPins : List ℕ → SubcircuitView → Type 0
HasAllPins net_of s = (k n : ℕ) → slice_get net_of k ≡ Some n → Lacks s.pins k → Lacks s.nets n

-- the level of a net by these contacts and drives
abbrev pub level_now : WholeView → List Bool → List Drive → ℕ → Level
level_now w closed ds n = level_of w.nets w.net_of w.contacts w.resistors closed ds n

-- The levels are right on each net whose subcircuit is not marked.
abbrev pub AreRight : WholeView → List ℕ → List ℕ → List Bool → List Drive → List Level → Type 0
AreRight w labels marked closed ds levels = (n : ℕ) → n < w.nets → has marked (slice_index labels n) ≡ false → slice_get levels n ≡ Some (level_now w closed ds n)

abbrev pub AreSubcircuits : WholeView → List ℕ → List SubcircuitView → Type 0
AreSubcircuits w labels subs = (q : ℕ) (s : SubcircuitView) → slice_get subs q ≡ Some s → IsSubcircuit w labels q s

-- no net is in two subcircuits
abbrev pub AreApart : List SubcircuitView → Type 0
AreApart subs = (p q j k n : ℕ) (s t : SubcircuitView) → slice_get subs p ≡ Some s → slice_get subs q ≡ Some t → slice_get s.nets j ≡ Some n → slice_get t.nets k ≡ Some n → p ≡ q

-- different numbers below a count
pub record AreNumbers (count : ℕ) (ns : List ℕ) : Type 0 where
  pub within : (j n : ℕ) → slice_get ns j ≡ Some n → n < count
  pub once : AreOnce ns

-- the numbers that a subcircuit has are of a board's pins, contacts and nets, and it has all pins on its nets
pub record FitsIn (net_of : List ℕ) (drives_count contacts_count nets_count : ℕ) (s : SubcircuitView) : Type 0 where
  pub each : length net_of ≡ drives_count
  pub pins : (j k : ℕ) → slice_get s.pins j ≡ Some k → k < length net_of
  pub contacts : (j k : ℕ) → slice_get s.contacts j ≡ Some k → k < contacts_count
  pub nets : AreNumbers nets_count s.nets
  pub whole : HasAllPins net_of s
