-- The numbers of nets (profile). Pins have one net exactly where a walk over joined pairs leads from one to the other
-- (`board_model`, Nets); the nets are numbered from 0 in the order of their first pins, so that each board has one numbering.
use Rattle.std.specs.Prelude.{ℕ, List, length, map, filter, Bool, not}
use Rattle.std.specs.List.{position_or_len}
use Rattle.board_model.specs.Walks.{any_below, below, leads}
use Rattle.board_model.specs.Nets.{joined_by}

-- the joined pairs of so many pins
module _ (pairs : List (ℕ × ℕ)) (count : ℕ) where
  -- whether two pins have one net
  abbrev pub is_one_net : ℕ → ℕ → Bool
  is_one_net a b = leads count (joined_by pairs) a b

  -- whether a pin is the first of its net
  abbrev pub is_first : ℕ → Bool
  is_first pin = not (any_below pin (λ earlier. is_one_net earlier pin))

  -- the first pin of each net
  unfoldable pub first_pins : List ℕ
  first_pins = filter is_first (below count)

  -- the net of a pin
  abbrev pub number_of_net : ℕ → ℕ
  number_of_net pin = position_or_len (λ first. is_one_net first pin) first_pins

  -- the net of each pin, and how many nets there are
  unfoldable pub net_numbers : List ℕ
  net_numbers = map number_of_net (below count)

  abbrev pub net_count : ℕ
  net_count = length first_pins
