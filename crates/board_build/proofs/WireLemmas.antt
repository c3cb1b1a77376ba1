-- The ends of wires are pins of the board, where the project has each chip.
use Rattle.std.proofs.Common.{◌≡◌, ◌≢◌, ◌+◌, ◌<◌, ℕ, zero, suc, List, [], ◌∷◌, length, get_or, Bool, Option, None, Some, Ok, refl, ap, ◌∙◌, arith, inl, inr, slice_get, subst}
use Rattle.std.specs.List.{All, sum_by, position_from}
use Rattle.std.specs.Option.{option_map, option_and_then}
use Rattle.std.specs.Str.{bytes_eq}
use Rattle.std.proofs.lemmas.Bool.{cases_Bool, cases_lt}
use Rattle.std.proofs.lemmas.List.Elements.{All-append}
use Rattle.std.proofs.lemmas.List.Sums.{sum_by_more_le}
use Rattle.std.proofs.lemmas.Option.{get_or_from_slice_get, slice_get_past}
use Rattle.document_model.specs.declared.diagram.Wire.{Wire}
use Rattle.document_model.specs.Reading.{each_from}
use Rattle.part_catalog.specs.Pins.{pin_names}
use Rattle.net_pins.specs.Labels.{IsBelow}
use Rattle.board_build.specs.declared.plan.PlanKind.{PlanKind}
use Rattle.board_build.specs.declared.plan.PlanKind.TheVariants as plans
use Rattle.board_build.specs.Parts.{found_chip, place_of}
use Rattle.board_build.specs.Pins.{has_name, pins_of_chip, count_of, pin_in, starts_from, pin_of_part, end_on_board, wire_on_board, joins_in, pairs_inside}
use Rattle.document_model.proofs.ReadingLemmas.{first_read, each_all}
use Rattle.board_build.specs.Plan.{joined}
use Rattle.board_build.proofs.PinLemmas.{starts_at, all_inside, joins_each}

-- the project has the chip of each part that is one
abbrev pub AllFound : List (Option PlanKind) → Type 0
AllFound kinds = (i : ℕ) (kind : Option PlanKind) → slice_get kinds i ≡ Some kind → kind ≢ None

pub position_below : {X : Type 0} (test : X → Bool) (i : ℕ) (xs : List X) (n : ℕ) → position_from test i xs ≡ Some n → n < i + length xs
position_below test i [] n e = absurd cc
position_below test i (x ∷ xs) n e = elim (cases_Bool (test x)) [
  | inl t ↦ let same : Some i ≡ Some n = rw t at e in let at : i ≡ n = cc in omega arith
  | inr f ↦ let later : position_from test (i + 1) xs ≡ Some n = rw f at e in omega (arith, position_below test (i + 1) xs n later)
]

module _ (pins : List (List (Option (List ℕ)))) where
  pin_below : (pin : List ℕ) (kind : Option PlanKind) (n : ℕ) → kind ≢ None → pin_in pins pin kind ≡ Some n → n < count_of pins kind
  pin_below pin None n there e = absurd (there refl)
  pin_below pin (Some (plans.Stock kind)) n there e = let h = position_below (bytes_eq pin) 0 (pin_names kind) n e in omega arith
  pin_below pin (Some (plans.Chip chip)) n there e = let h = position_below (has_name pin) 0 (pins_of_chip pins chip) n e in omega arith

  module _ (kinds : List (Option PlanKind)) (found : (i : ℕ) (kind : Option PlanKind) → slice_get kinds i ≡ Some kind → kind ≢ None) where
    abbrev first : ℕ → ℕ
    first part = get_or (starts_from pins 0 kinds) part 0

    at_pin : (part : ℕ) (kind : Option PlanKind) (pin : List ℕ) (n : ℕ) (r : Option ℕ) → slice_get kinds part ≡ Some kind → pin_in pins pin kind ≡ r →
        option_map (λ m. first part + m) r ≡ Some n → n < sum_by (count_of pins) kinds
    at_pin part kind pin n None at is e = absurd cc
    at_pin part kind pin n (Some m) at is e =
        let inside : part < length kinds = within part kind at in
        let below : m < count_of pins kind = pin_below pin kind m (found part kind at) is in
        let same : first part + m ≡ n = cc in
        let start = starts_at pins 0 kinds part inside in
        let more = sum_by_more_le (count_of pins) kinds part None inside in
        let this : get_or kinds part None ≡ kind = get_or_from_slice_get kinds part kind None at in
        omega (arith, ap (count_of pins) this)
      where
        within : (part : ℕ) (kind : Option PlanKind) → slice_get kinds part ≡ Some kind → part < length kinds
        within part kind at = elim (cases_lt part (length kinds)) [
          | inl l ↦ l
          | inr m ↦ let past = slice_get_past kinds part m in absurd cc
        ]

    at_part : (part : ℕ) (o : Option (Option PlanKind)) (pin : List ℕ) (n : ℕ) → slice_get kinds part ≡ o →
        option_map (λ m. first part + m) (option_and_then (pin_in pins pin) o) ≡ Some n → n < sum_by (count_of pins) kinds
    at_part part None pin n at e = absurd cc
    at_part part (Some kind) pin n at e = at_pin part kind pin n (pin_in pins pin kind) at refl e

    at_place : (o : Option ℕ) (pin : List ℕ) (n : ℕ) → option_and_then (pin_of_part pins kinds pin) o ≡ Some n → n < sum_by (count_of pins) kinds
    at_place None pin n e = absurd cc
    at_place (Some part) pin n e = at_part part (slice_get kinds part) pin n refl e

    end_below : (ids : List (List ℕ)) (end : List ℕ × List ℕ) (n : ℕ) → end_on_board pins kinds ids end ≡ Some n → n < sum_by (count_of pins) kinds
    end_below ids end n e = at_place (place_of ids end.0) end.1 n e

    both_below : (ids : List (List ℕ)) (wire : Wire) (pair : ℕ × ℕ) → wire_on_board pins kinds ids wire ≡ Ok pair → IsBelow (sum_by (count_of pins) kinds) pair
    both_below ids wire pair e = from_end (end_on_board pins kinds ids wire.from) (end_on_board pins kinds ids wire.to) refl refl e
      where
        from_end : (a b : Option ℕ) → end_on_board pins kinds ids wire.from ≡ a → end_on_board pins kinds ids wire.to ≡ b → wire_on_board pins kinds ids wire ≡ Ok pair →
            IsBelow (sum_by (count_of pins) kinds) pair
        from_end None b is too h = let bad = rw is at h in absurd cc
        from_end (Some m) None is too h = let bad = rw (is, too) at h in absurd cc
        from_end (Some m) (Some n) is too h =
            let both : ℕ × ℕ = (m, n) in
            let same = rw (is, too) at h in
            let e : both ≡ pair = cc in
            subst (IsBelow (sum_by (count_of pins) kinds)) e (end_below ids wire.from m is, end_below ids wire.to n too)

    pub wires_below : (ids : List (List ℕ)) (wires : List Wire) (pairs : List (ℕ × ℕ)) → each_from (λ k. wire_on_board pins kinds ids) 1 wires ≡ Ok pairs →
        All (IsBelow (sum_by (count_of pins) kinds)) pairs
    wires_below ids wires pairs e = each_all (λ k. wire_on_board pins kinds ids) (IsBelow (sum_by (count_of pins) kinds)) (λ k wire pair h. both_below ids wire pair h) 1 wires pairs e

found_tail : (kind : Option PlanKind) (kinds : List (Option PlanKind)) → kind ≢ None → AllFound kinds → AllFound (kind ∷ kinds)
found_tail kind kinds here tail zero other at = let same : kind ≡ other = cc in λ (e : other ≡ None). here (same ∙ e)
found_tail kind kinds here tail (suc i) other at = tail i other at

-- where each chip was found, each part is something
pub all_found : (k : ℕ) (kinds : List (Option PlanKind)) (found : List PlanKind) → each_from found_chip k kinds ≡ Ok found → AllFound kinds
all_found k [] found e i kind at = absurd cc
all_found k (None ∷ kinds) found e i kind at = let (y, rest, here, there, is) = first_read found_chip k None kinds found e in absurd cc
all_found k (Some kind ∷ kinds) found e i other at =
    let (y, rest, here, there, is) = first_read found_chip k (Some kind) kinds found e in
    found_tail (Some kind) kinds (λ (h : Some kind ≡ None). cc) (all_found (suc k) kinds rest there) i other at

-- what joins pins is between pins that there are
pub joined_below : (pins : List (List (Option (List ℕ)))) (kinds : List (Option PlanKind)) (found : List PlanKind) (ids : List (List ℕ)) (wires : List Wire) (pairs : List (ℕ × ℕ)) →
    each_from found_chip 1 kinds ≡ Ok found → each_from (λ k. wire_on_board pins kinds ids) 1 wires ≡ Ok pairs →
    All (IsBelow (sum_by (count_of pins) kinds)) (joined pairs (starts_from pins 0 kinds) kinds)
joined_below pins kinds found ids wires pairs chip wire =
    All-append (IsBelow (sum_by (count_of pins) kinds)) pairs (pairs_inside joins_in (starts_from pins 0 kinds) kinds)
    (wires_below pins kinds (all_found 1 kinds found chip) ids wires pairs wire) (all_inside pins joins_in (joins_each pins) kinds)
