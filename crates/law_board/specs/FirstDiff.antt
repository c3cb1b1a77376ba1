-- The first difference of two boards in what their custom chips drive: the first cycle, then the first part, then the first pin (profile).
use Rattle.std.specs.Prelude.{◌≡◌, ℕ, zero, suc, ◌+◌, List, ◌∷◌, map, length, true, Option, None, Some, if◌then◌else◌}
use Rattle.std.specs.Option.{option_or, option_map}
use Rattle.sim_base.specs.declared.signal.Drive.{Drive}
use Rattle.sim_base.specs.declared.wiring.Wiring.{Wiring}
use Rattle.sim_base.specs.declared.wiring.Input.{Input}
use Rattle.part_law.specs.Machine.{Machine}
use Rattle.board_model.specs.Board.{levels_of, steps_from, states}
use Rattle.board_model.specs.Rows.{same_drive}
use Rattle.law_board.specs.Alike.{Alike}
use Rattle.law_board.specs.Worlds.{is_chip}

pub record Difference : Type 0 where
  pub cycle : ℕ
  pub part : ℕ
  pub pin : ℕ
  pub one : Drive
  pub other : Drive

-- the first difference of two lists of drives, whose first pin is p
abbrev pub pin_diff : ℕ → List Drive → List Drive → Option (ℕ × Drive × Drive)
pin_diff p (x ∷ xs) (y ∷ ys) = if same_drive x y then pin_diff (p + 1) xs ys else Some (p, x, y)
pin_diff p xs ys = None

module _ {S : Type 0} (m : Machine S) (w : Wiring) where
  -- the first difference in cycle t, from part i on
  abbrev pub part_diff : ℕ → ℕ → List S → List S → Option Difference
  part_diff t i (a ∷ xs) (b ∷ ys) =
      option_or (if is_chip w i then option_map (λ d. record { cycle = t; part = i; pin = d.0; one = d.1; other = d.2 }) (pin_diff 0 (m.drives a) (m.drives b)) else None)
      (part_diff t (i + 1) xs ys)
  part_diff t i xs ys = None

  -- the chips of two boards have the same numbers of pins
  abbrev pub SamePins : List S → List S → Type 0
  SamePins xs ys = Alike (λ k a b. is_chip w k ≡ true → length (m.drives a) ≡ length (m.drives b)) xs ys

module _ {S : Type 0} (m : Machine S) (w : Wiring) (inputs : List Input) (xs ys : List S) (c : ℕ) where
  -- the first difference of two boards' runs in the n cycles from c on
  unfoldable pub first_diff : ℕ → Option Difference
  first_diff zero = None
  first_diff (suc n) = option_or (first_diff n) (part_diff m w (c + n) 0 (states m w inputs xs c n) (states m w inputs ys c n))

  -- the second board's parts, stepped on the first board's levels
  unfoldable pub stepped_beside : ℕ → List S
  stepped_beside zero = ys
  stepped_beside (suc n) = map (λ r. r.0) (steps_from m w inputs (levels_of m w (states m w inputs xs c n)) (c + n) 0 (stepped_beside n))

  -- the first difference between the first board and those parts
  unfoldable pub first_beside : ℕ → Option Difference
  first_beside zero = None
  first_beside (suc n) = option_or (first_beside n) (part_diff m w (c + n) 0 (states m w inputs xs c n) (stepped_beside n))
