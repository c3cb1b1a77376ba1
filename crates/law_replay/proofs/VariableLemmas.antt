-- The wave of a board tells each pin of a chip that has a name, and it has few variables.
use Rattle.std.proofs.Common.{◌≡◌, ◌≤◌, ◌+◌, ◌*◌, ◌==◌, ℕ, zero, suc, List, [], ◌∷◌, ◌++◌, length, map, take, Bool, true, false, Option, None, Some, refl, ap, sym, ◌∙◌, subst, arith}
use Rattle.std.specs.Prelude.{if◌then◌else◌, slice_get}
use Rattle.std.specs.List.{All, count_by}
use Rattle.std.proofs.lemmas.Bool.{eq-eqb, or_left, or_right}
use Rattle.std.proofs.lemmas.List.{length-append, length-map, length-take}
use Rattle.std.proofs.lemmas.List.Elements.{All-map}
use Rattle.std.proofs.lemmas.List.Folds.{list_any-append}
use Rattle.std.proofs.lemmas.List.Sums.{sum_by-cons}
use Rattle.text_model.specs.Wave.{Source, Variable}
use Rattle.vcd_text.specs.Tracks.{is_strong, is_weak}
use Rattle.part_catalog.specs.declared.kind.Kind.TheVariants as kinds
use Rattle.part_catalog.specs.Pins.{pin_names}
use Rattle.board_build.specs.declared.plan.Plan.{Plan}
use Rattle.board_build.specs.declared.plan.PlanPart.{PlanPart}
use Rattle.board_build.specs.declared.plan.PlanKind.{PlanKind}
use Rattle.board_build.specs.declared.plan.PlanKind.TheVariants as plans
use Rattle.board_build.specs.Parts.{is_chip}
use Rattle.board_build.specs.IsPlan.{IsPlan, kinds_in}
use Rattle.board_build.specs.Pins.{IsShort, count_of, pins_of_chip}
use Rattle.board_build.proofs.PinLemmas.{count_few}
use Rattle.chip_module.specs.declared.source.ChipSource.{ChipSource}
use Rattle.chip_module.specs.Sources.{HasFewPins, pins_of}
use Rattle.board_outputs.specs.Variables.{shown_names, pin_variables, pins_variables, part_variables, parts_variables, board_variables}
use Rattle.law_chip.specs.Named.{is_named}
use Rattle.law_wave.specs.Written.{IsTold, is_shown}

shown_left : (test : Source → Bool) (xs ys : List Variable) → is_shown test xs ≡ true → is_shown test (xs ++ ys) ≡ true
shown_left test xs ys e = list_any-append (λ (v : Variable). test v.shows) xs ys ∙ or_left (is_shown test xs) (is_shown test ys) e

shown_right : (test : Source → Bool) (xs ys : List Variable) → is_shown test ys ≡ true → is_shown test (xs ++ ys) ≡ true
shown_right test xs ys e = list_any-append (λ (v : Variable). test v.shows) xs ys ∙ or_right (is_shown test xs) (is_shown test ys) e

module _ (net_of id : List ℕ) (test : Source → Bool) (pin : ℕ) (hit : (name : List ℕ) → is_shown test (pin_variables net_of id true pin (Some name)) ≡ true) where
  pins_shown : (names : List (Option (List ℕ))) (first j : ℕ) → first + j ≡ pin → is_named names j ≡ true → is_shown test (pins_variables net_of id true first names) ≡ true
  unfolding pins_variables
  pins_shown [] first j at named = absurd cc
  pins_shown (None ∷ names) first zero at named = absurd cc
  pins_shown (Some name ∷ names) first zero at named =
      let e : pin ≡ first = omega (arith, at) in
      shown_left test (pin_variables net_of id true first (Some name)) (pins_variables net_of id true (suc first) names)
      (subst (λ (p : ℕ). is_shown test (pin_variables net_of id true p (Some name)) ≡ true) e (hit name))
  pins_shown (x ∷ names) first (suc j) at named =
      shown_right test (pin_variables net_of id true first x) (pins_variables net_of id true (suc first) names)
      (pins_shown names (suc first) j (omega (arith, at)) named)

module _ (chip_pins : List (List (Option (List ℕ)))) (net_of : List ℕ) where
  parts_shown : (test : Source → Bool) (firsts : List ℕ) (parts : List PlanPart) (k first : ℕ) (part : PlanPart) → slice_get firsts k ≡ Some first → slice_get parts k ≡ Some part →
      is_shown test (part_variables chip_pins net_of first part) ≡ true → is_shown test (parts_variables chip_pins net_of firsts parts) ≡ true
  unfolding parts_variables
  parts_shown test [] parts k first part at here e = absurd cc
  parts_shown test (f ∷ firsts) [] k first part at here e = absurd cc
  parts_shown test (f ∷ firsts) (p ∷ parts) zero first part at here e =
      let one : first ≡ f = some_is (sym at) in
      let two : part ≡ p = some_is (sym here) in
      shown_left test (part_variables chip_pins net_of f p) (parts_variables chip_pins net_of firsts parts)
      (ap (λ (q : PlanPart). is_shown test (part_variables chip_pins net_of f q)) (sym two) ∙ ap (λ (x : ℕ). is_shown test (part_variables chip_pins net_of x part)) (sym one) ∙ e)
    where
      some_is : {B : Type 0} {a b : B} → Some a ≡ Some b → a ≡ b
      some_is e = cc
  parts_shown test (f ∷ firsts) (p ∷ parts) (suc k) first part at here e =
      shown_right test (part_variables chip_pins net_of f p) (parts_variables chip_pins net_of firsts parts) (parts_shown test firsts parts k first part at here e)

  module _ (firsts : List ℕ) (parts : List PlanPart) (k first c j : ℕ) (part : PlanPart) (at : slice_get firsts k ≡ Some first) (here : slice_get parts k ≡ Some part)
      (kind : part.kind ≡ plans.Chip c) (named : is_named (pins_of_chip chip_pins c) j ≡ true) where
    shown_by : (test : Source → Bool) → ((name : List ℕ) → is_shown test (pin_variables net_of part.id true (first + j) (Some name)) ≡ true) →
        is_shown test (parts_variables chip_pins net_of firsts parts) ≡ true
    shown_by test hit =
        parts_shown test firsts parts k first part at here
        (ap (λ (x : PlanKind). is_shown test (pins_variables net_of part.id (is_chip (Some x)) first (shown_names chip_pins x))) kind
        ∙ pins_shown net_of part.id test (first + j) hit (pins_of_chip chip_pins c) first j refl named)

    pub named_told : IsTold (parts_variables chip_pins net_of firsts parts) (first + j)
    named_told = record {
      strong = shown_by (is_strong (first + j)) (λ name. or_left (first + j == first + j) false (eq-eqb (first + j) (first + j) refl));
      weak = shown_by (is_weak (first + j)) (λ name. or_left (first + j == first + j) false (eq-eqb (first + j) (first + j) refl));
    }

-- a pin has one variable, or three where it is a chip's
abbrev most_of : Bool → ℕ
most_of chip = if chip then 3 else 1

pin_most : (net_of id : List ℕ) (chip : Bool) (pin : ℕ) (name : Option (List ℕ)) → length (pin_variables net_of id chip pin name) ≤ most_of chip
pin_most net_of id chip pin None = omega arith
pin_most net_of id true pin (Some name) = omega arith
pin_most net_of id false pin (Some name) = omega arith

pins_most : (net_of id : List ℕ) (chip : Bool) (first : ℕ) (names : List (Option (List ℕ))) → length (pins_variables net_of id chip first names) ≤ most_of chip * length names
unfolding pins_variables
pins_most net_of id chip first [] = omega arith
pins_most net_of id true first (name ∷ names) =
    let both = length-append (pin_variables net_of id true first name) (pins_variables net_of id true (suc first) names) in
    omega (arith, both, pin_most net_of id true first name, pins_most net_of id true (suc first) names)
pins_most net_of id false first (name ∷ names) =
    let both = length-append (pin_variables net_of id false first name) (pins_variables net_of id false (suc first) names) in
    omega (arith, both, pin_most net_of id false first name, pins_most net_of id false (suc first) names)

module _ (chip_pins : List (List (Option (List ℕ)))) (short : All IsShort chip_pins) (net_of : List ℕ) where
  shown_most : (kind : PlanKind) → length (shown_names chip_pins kind) ≤ count_of chip_pins (Some kind)
  shown_most (plans.Stock kinds.ArduinoUno) =
      let shown = length-map {B = Option (List ℕ)} (take 20 (pin_names kinds.ArduinoUno)) Some in
      omega (arith, shown, length-take 20 (pin_names kinds.ArduinoUno))
  shown_most (plans.Stock kind) = let shown = length-map {B = Option (List ℕ)} (pin_names kind) Some in omega (arith, shown)
  shown_most (plans.Chip chip) = omega arith

  abbrev is_counted : Option PlanKind → ℕ
  is_counted kind = if is_chip kind then 1 else 0

  part_most : (first : ℕ) (part : PlanPart) → length (part_variables chip_pins net_of first part) ≤ 64 + 128 * is_counted (Some part.kind)
  part_most first part =
      kind_most part.kind (is_chip (Some part.kind)) (pins_most net_of part.id (is_chip (Some part.kind)) first (shown_names chip_pins part.kind))
    where
      kind_most : (kind : PlanKind) (chip : Bool) → length (pins_variables net_of part.id chip first (shown_names chip_pins kind)) ≤ most_of chip * length (shown_names chip_pins kind) →
          length (pins_variables net_of part.id chip first (shown_names chip_pins kind)) ≤ 64 + 128 * (if chip then 1 else 0)
      kind_most kind true most = omega (arith, most, shown_most kind, count_few chip_pins short (Some kind))
      kind_most kind false most = omega (arith, most, shown_most kind, count_few chip_pins short (Some kind))

  parts_most : (firsts : List ℕ) (parts : List PlanPart) → length (parts_variables chip_pins net_of firsts parts) ≤ 64 * length parts + 128 * count_by is_chip (kinds_in parts)
  unfolding parts_variables
  parts_most [] parts = omega arith
  parts_most (first ∷ firsts) [] = omega arith
  parts_most (first ∷ firsts) (part ∷ parts) =
      let both = length-append (part_variables chip_pins net_of first part) (parts_variables chip_pins net_of firsts parts) in
      let chips = sum_by-cons is_counted (Some part.kind) (kinds_in parts) in
      omega (arith, both, chips, part_most first part, parts_most firsts parts)

-- no more than there are identifier codes of one and two characters
pub few_shown : (chips : List ChipSource) (plan : Plan) → All HasFewPins chips → IsPlan (pins_of chips) plan → length (board_variables (pins_of chips) plan) ≤ 8930
few_shown chips plan few is =
    let short : All IsShort (pins_of chips) = All-map IsShort (λ (c : ChipSource). c.pins) chips few in
    omega (arith, parts_most (pins_of chips) short plan.wiring.net_of plan.wiring.first_pin plan.parts, is.few, is.few_chips)
