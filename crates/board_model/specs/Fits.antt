-- Wirings that name only nets and parts that there are.
use Rattle.std.specs.Prelude.{◌≡◌, ℕ, ◌<◌, ◌≤◌, List, length, take, Some, slice_get, slice_index}
use Rattle.board_model.specs.Pairs.{ArePairs}
use Rattle.sim_base.specs.declared.wiring.Wiring.{Wiring}
use Rattle.sim_base.specs.declared.wiring.Input.{Input}
use Rattle.part_law.specs.Machine.{Machine}
use Rattle.board_model.specs.Board.{drives_of, contacts_of}

-- each net number in the wiring is that of a net
pub record IsWiring (w : Wiring) : Type 0 where
  pub pins : (k n : ℕ) → slice_get w.net_of k ≡ Some n → n < w.nets
  pub contacts : ArePairs w.nets w.contacts
  pub resistors : ArePairs w.nets w.resistors

-- the parts with these states have the wiring's pins and contacts
pub record Fits {S : Type 0} (m : Machine S) (w : Wiring) (ss : List S) : Type 0 where
  pub parts : length w.first_pin ≡ length ss
  pub chips : length w.chip ≡ length ss
  pub pins : length w.net_of ≡ length (drives_of m ss)
  pub contacts : length w.contacts ≡ length (contacts_of m ss)
  pub places : (i : ℕ) → i < length ss → slice_index w.first_pin i ≡ length (drives_of m (take i ss))

-- the cycles of script values do not fall, and each is for one of so many parts
pub record AreInputs (count : ℕ) (inputs : List Input) : Type 0 where
  pub in_order : (j k : ℕ) (a b : Input) → j ≤ k → slice_get inputs j ≡ Some a → slice_get inputs k ≡ Some b → a.cycle ≤ b.cycle
  pub for_parts : (k : ℕ) (a : Input) → slice_get inputs k ≡ Some a → a.part < count
