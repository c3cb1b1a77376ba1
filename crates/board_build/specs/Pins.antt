-- The pins of a board, all pins of part 0, then of part 1, and so on, and what wires and parts join (profile).
use Rattle.std.specs.Prelude.{ℕ, ◌+◌, ◌≤◌, List, [], ◌∷◌, ◌++◌, length, map, Bool, false, Option, None, Some, Result, Ok, slice_get, slice_index, unwrap_or, option_map, option_and_then, ok_or}
use Rattle.std.specs.List.{position_from}
use Rattle.std.specs.Str.{bytes_eq}
use Rattle.sim_base.specs.declared.fault.Refusal.{Refusal}
use Rattle.sim_base.specs.declared.fault.Place.TheVariants as places
use Rattle.sim_refusals.specs.Refusals.{PinUnknown}
use Rattle.part_catalog.specs.declared.kind.Kind.TheVariants as kinds
use Rattle.part_catalog.specs.Pins.{pin_names, number_of, joins_of, contacts_in}
use Rattle.document_model.specs.declared.diagram.Wire.{Wire}
use Rattle.document_model.specs.Reading.{◌>>=◌, refusal}
use Rattle.board_build.specs.declared.plan.PlanKind.{PlanKind}
use Rattle.board_build.specs.declared.plan.PlanKind.TheVariants as plans
use Rattle.board_build.specs.Parts.{place_of}

abbrev pub has_name : List ℕ → Option (List ℕ) → Bool
has_name pin None = false
has_name pin (Some name) = bytes_eq pin name

-- a list of a chip's pins has at most 64 positions
abbrev pub IsShort : List (Option (List ℕ)) → Type 0
IsShort list = length list ≤ 64

-- a pin of the board, of which there are at most 64 times 64
abbrev pub IsLow : ℕ → Type 0
IsLow pin = pin ≤ 4096

-- the pins of each chip of the project: a skipped position is a pin without a name
module _ (pins : List (List (Option (List ℕ)))) where
  abbrev pub pins_of_chip : ℕ → List (Option (List ℕ))
  pins_of_chip chip = unwrap_or (slice_get pins chip) []

  -- how many pins a part has; a chip that the project lacks has none
  abbrev pub count_of : Option PlanKind → ℕ
  count_of None = 0
  count_of (Some (plans.Stock kind)) = length (pin_names kind)
  count_of (Some (plans.Chip chip)) = length (pins_of_chip chip)

  -- the pin of a part with a name; a chip that the project lacks counts as having every pin, as its first
  abbrev pub pin_in : List ℕ → Option PlanKind → Option ℕ
  pin_in pin None = Some 0
  pin_in pin (Some (plans.Stock kind)) = number_of kind pin
  pin_in pin (Some (plans.Chip chip)) = position_from (has_name pin) 0 (pins_of_chip chip)

  -- where the pins of each part begin, those of the first one at n
  unfoldable pub starts_from : ℕ → List (Option PlanKind) → List ℕ
  starts_from n [] = []
  starts_from n (kind ∷ kinds) = n ∷ starts_from (n + count_of kind) kinds

  -- the pin on the board of a named pin of a part
  abbrev pub pin_of_part : List (Option PlanKind) → List ℕ → ℕ → Option ℕ
  pin_of_part kinds pin part =
      option_map (λ n. slice_index (starts_from 0 kinds) part + n) (option_and_then (pin_in pin) (slice_get kinds part))

  -- an end of a wire: an id and the name of a pin
  abbrev pub end_on_board : List (Option PlanKind) → List (List ℕ) → List ℕ × List ℕ → Option ℕ
  end_on_board kinds ids end = option_and_then (pin_of_part kinds end.1) (place_of ids end.0)

  -- 44: both ends of a wire are pins of parts
  abbrev pub wire_on_board : List (Option PlanKind) → List (List ℕ) → Wire → Result (ℕ × ℕ) Refusal
  wire_on_board kinds ids wire = do
    from ← ok_or (end_on_board kinds ids wire.from) (refusal PinUnknown (places.Connection wire.number))
    to ← ok_or (end_on_board kinds ids wire.to) (refusal PinUnknown (places.Connection wire.number))
    Ok (from, to)

-- pairs of pins of one part, which begin at a pin of the board
abbrev pub pairs_at : ℕ → List (ℕ × ℕ) → List (ℕ × ℕ)
pairs_at first pairs = map (λ (pair : ℕ × ℕ). (first + pair.0, first + pair.1)) pairs

-- what a part joins for good, its contacts, and its resistors, as pairs of its own pins
abbrev pub joins_in : Option PlanKind → List (ℕ × ℕ)
joins_in (Some (plans.Stock kind)) = joins_of kind
joins_in kind = []

abbrev pub contacts_inside : Option PlanKind → List (ℕ × ℕ)
contacts_inside (Some (plans.Stock kind)) = contacts_in kind
contacts_inside kind = []

abbrev pub resistors_in : Option PlanKind → List (ℕ × ℕ)
resistors_in (Some (plans.Stock kinds.Resistor)) = (0, 1) ∷ []
resistors_in kind = []

-- such pairs of all parts, as pins of the board; the parts' pins begin at `firsts`
unfoldable pub pairs_inside : (Option PlanKind → List (ℕ × ℕ)) → List ℕ → List (Option PlanKind) → List (ℕ × ℕ)
pairs_inside inside [] kinds = []
pairs_inside inside (first ∷ firsts) [] = []
pairs_inside inside (first ∷ firsts) (kind ∷ kinds) = pairs_at first (inside kind) ++ pairs_inside inside firsts kinds
