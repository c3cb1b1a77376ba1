-- The variables of a board, pin by pin and part by part.
use Rattle.std.proofs.Common.{◌≡◌, ◌+◌, ◌*◌, ◌<◌, ◌≤◌, ◌∙◌, ℕ, suc, List, [], ◌∷◌, ◌++◌, length, map, take, drop, get_or, Bool, true, false, Option, None, Some, slice_get, refl, ap, sym, subst, inl, inr, arith, lit≤}
use Rattle.std.specs.Prelude.{if◌then◌else◌}
use Rattle.std.specs.List.{All, list_all, sum_by, count_by}
use Rattle.std.specs.Option.{option_map}
use Rattle.std.proofs.lemmas.Bool.{cases_Bool}
use Rattle.std.proofs.lemmas.List.{append_assoc, append-nil, drop_more, drop_all, get_or-take, length-take, length-map, get_or-map}
use Rattle.std.proofs.lemmas.List.Folds.{list_all_at}
use Rattle.std.proofs.lemmas.List.Sums.{sum_by-cons, sum_by_more_le}
use Rattle.std.proofs.lemmas.Option.{get_or_from_slice_get, slice_get-map}
use Rattle.text_model.specs.Wave.{Variable}
use Rattle.part_catalog.specs.declared.kind.Kind.{Kind}
use Rattle.part_catalog.specs.declared.kind.Kind.TheVariants as kinds
use Rattle.part_catalog.specs.Pins.{pin_names}
use Rattle.board_build.specs.declared.plan.PlanKind.{PlanKind}
use Rattle.board_build.specs.declared.plan.PlanKind.TheVariants as plans
use Rattle.board_build.specs.declared.plan.PlanPart.{PlanPart}
use Rattle.board_build.specs.declared.plan.Plan.{Plan}
use Rattle.board_build.specs.Parts.{is_chip}
use Rattle.board_build.specs.Pins.{count_of, IsShort}
use Rattle.board_build.specs.IsPlan.{IsPlan, can_run, kinds_in}
use Rattle.board_build.proofs.PinLemmas.{starts_at, starts_length, sum_few}
use Rattle.board_outputs.specs.Variables.{shown_names, pin_variables, pins_variables, part_variables, parts_variables}

-- the pins that are shown are the first ones
pub shown_first : (kind : Kind) → shown_names [] (plans.Stock kind) ≡ take (length (shown_names [] (plans.Stock kind))) (map Some (pin_names kind))
unfolding pin_names
shown_first kinds.ArduinoUno = refl
shown_first kinds.Led = refl
shown_first kinds.Pushbutton = refl
shown_first kinds.SlideSwitch = refl
shown_first kinds.DipSwitch8 = refl
shown_first kinds.Resistor = refl
shown_first kinds.Junction = refl
shown_first kinds.Text = refl
shown_first kinds.Vcc = refl
shown_first kinds.Gnd = refl
shown_first kinds.Potentiometer = refl
shown_first kinds.GateNot = refl
shown_first kinds.GateBuffer = refl
shown_first kinds.GateAnd2 = refl
shown_first kinds.GateOr2 = refl
shown_first kinds.GateNand2 = refl
shown_first kinds.GateNor2 = refl
shown_first kinds.GateXor2 = refl
shown_first kinds.GateXnor2 = refl
shown_first kinds.ShiftRegister595 = refl
shown_first kinds.SevenSegment = refl
shown_first kinds.Lcd1602Full = refl
shown_first kinds.Lcd1602I2c = refl
shown_first kinds.Ssd1306 = refl
shown_first kinds.MembraneKeypad = refl
shown_first kinds.Source = refl

pub shown_few : (kind : Kind) → length (shown_names [] (plans.Stock kind)) ≤ length (pin_names kind)
shown_few kind =
    let first = ap (λ (l : List (Option (List ℕ))). length l) (shown_first kind) in
    let taken = length-take (length (shown_names [] (plans.Stock kind))) (map Some (pin_names kind)) in
    let many = length-map {B = Option (List ℕ)} (pin_names kind) Some in
    omega (arith, first, taken, many)

pub shown_name : (kind : Kind) (k : ℕ) (name : List ℕ) → k < length (shown_names [] (plans.Stock kind)) → slice_get (pin_names kind) k ≡ Some name → get_or (shown_names [] (plans.Stock kind)) k None ≡ Some name
shown_name kind k name inside is =
    ap (λ (l : List (Option (List ℕ))). get_or l k None) (shown_first kind)
    ∙ get_or-take (length (shown_names [] (plans.Stock kind))) (map Some (pin_names kind)) k None inside
    ∙ get_or_from_slice_get (map Some (pin_names kind)) k (Some name) None (slice_get-map (λ (n : List ℕ). Some n) (pin_names kind) k ∙ ap (λ (o : Option (List ℕ)). option_map (λ (n : List ℕ). Some n) o) is)

module _ (chip_pins : List (List (Option (List ℕ)))) where
  -- what a part of the catalogue shows does not hang on chips
  pub stock_shown : (kind : Kind) → shown_names chip_pins (plans.Stock kind) ≡ shown_names [] (plans.Stock kind)
  unfolding pin_names
  stock_shown kinds.ArduinoUno = refl
  stock_shown kind = refl

  shown_fits : (kind : PlanKind) → length (shown_names chip_pins kind) ≤ count_of chip_pins (Some kind)
  shown_fits (plans.Stock kind) = let same = ap (λ (l : List (Option (List ℕ))). length l) (stock_shown kind) in omega (arith, same, shown_few kind)
  shown_fits (plans.Chip chip) = omega arith

  -- the pins of a part are pins of the board
  pub part_fits : (plan : Plan) (i : ℕ) (part : PlanPart) → IsPlan chip_pins plan → i < length plan.parts → part ≡ get_or plan.parts i part →
      get_or plan.wiring.first_pin i 0 + length (shown_names chip_pins part.kind) ≤ length plan.wiring.net_of
  part_fits plan i part is inside at =
      let of : PlanPart → Option PlanKind = λ (p : PlanPart). Some p.kind in
      let kinds : List (Option PlanKind) = kinds_in plan.parts in
      let many : length kinds ≡ length plan.parts = length-map plan.parts of in
      let within : i < length kinds = omega (arith, many, inside) in
      let first : get_or plan.wiring.first_pin i 0 ≡ 0 + sum_by (count_of chip_pins) (take i kinds) = ap (λ (l : List ℕ). get_or l i 0) is.first_pins ∙ starts_at chip_pins 0 kinds i within in
      let kind : get_or kinds i (Some part.kind) ≡ Some part.kind = get_or-map of plan.parts i part (Some part.kind) inside ∙ sym (ap of at) in
      let more = sum_by_more_le (count_of chip_pins) kinds i (Some part.kind) within in
      let own = ap (count_of chip_pins) kind in
      omega (arith, first, more, own, shown_fits part.kind, is.pins)

  -- each part has a place where its pins begin
  pub firsts_many : (plan : Plan) → IsPlan chip_pins plan → length plan.wiring.first_pin ≡ length plan.parts
  firsts_many plan is =
      ap (λ (l : List ℕ). length l) is.first_pins
      ∙ starts_length chip_pins 0 (kinds_in plan.parts)
      ∙ length-map plan.parts (λ (p : PlanPart). Some p.kind)

  -- each part can run
  pub part_ready : (plan : Plan) (i : ℕ) (part : PlanPart) → IsPlan chip_pins plan → i < length plan.parts → part ≡ get_or plan.parts i part → can_run (length chip_pins) part.kind ≡ true
  part_ready plan i part is inside at = elim (cases_Bool (can_run (length chip_pins) part.kind)) [
    | inl can ↦ can
    | inr fails ↦
        let e = list_all_at (λ (part : PlanPart). can_run (length chip_pins) part.kind) plan.parts i part inside (subst (λ (p : PlanPart). can_run (length chip_pins) p.kind ≡ false) at fails) in
        let r = is.ready in
        absurd cc
  ]

-- a board has at most 64 times 64 pins
pub pins_few : (chip_pins : List (List (Option (List ℕ)))) (plan : Plan) → All IsShort chip_pins → IsPlan chip_pins plan → length plan.wiring.net_of ≤ 4096
pins_few chip_pins plan short is =
    let many = length-map plan.parts (λ (p : PlanPart). Some p.kind) in
    let most = sum_few chip_pins short (kinds_in plan.parts) (omega (arith, many, is.few)) in
    omega (arith, is.pins, most)

-- one more pin
pub pins_more : (net_of id : List ℕ) (chip : Bool) (first k : ℕ) (names : List (Option (List ℕ))) (list new all : List Variable) → k < length names →
    new ≡ list ++ pin_variables net_of id chip (first + k) (get_or names k None) → list ++ pins_variables net_of id chip (first + k) (drop k names) ≡ all →
    new ++ pins_variables net_of id chip (first + (k + 1)) (drop (k + 1) names) ≡ all
unfolding pins_variables
pins_more net_of id chip first k names list new all inside added so_far =
    let later : first + (k + 1) ≡ suc (first + k) = omega arith in
    rw (added, later) (append_assoc list (pin_variables net_of id chip (first + k) (get_or names k None)) (pins_variables net_of id chip (suc (first + k)) (drop (k + 1) names)) ∙ opened ∙ so_far)
  where
    opened : list ++ (pin_variables net_of id chip (first + k) (get_or names k None) ++ pins_variables net_of id chip (suc (first + k)) (drop (k + 1) names)) ≡ list ++ pins_variables net_of id chip (first + k) (drop k names)
    opened = rw (drop_more names k None inside) refl

pub pins_done : (net_of id : List ℕ) (chip : Bool) (pin k : ℕ) (names : List (Option (List ℕ))) (list all : List Variable) → length names ≤ k → list ++ pins_variables net_of id chip pin (drop k names) ≡ all → list ≡ all
unfolding pins_variables
pins_done net_of id chip pin k names list all past so_far =
    let none : pins_variables net_of id chip pin (drop k names) ≡ [] = rw (drop_all k names past) refl in
    sym (append-nil list) ∙ ap (λ (l : List Variable). list ++ l) (sym none) ∙ so_far

module _ (chip_pins : List (List (Option (List ℕ)))) (net_of firsts : List ℕ) (parts : List PlanPart) (i : ℕ) where
  -- one more part
  pub parts_more : (part : PlanPart) (list new all : List Variable) → i < length firsts → i < length parts → part ≡ get_or parts i part →
      new ≡ list ++ part_variables chip_pins net_of (get_or firsts i 0) part → list ++ parts_variables chip_pins net_of (drop i firsts) (drop i parts) ≡ all →
      new ++ parts_variables chip_pins net_of (drop (i + 1) firsts) (drop (i + 1) parts) ≡ all
  unfolding parts_variables
  parts_more part list new all lf lp at added so_far =
      rw added (append_assoc list (part_variables chip_pins net_of (get_or firsts i 0) part) (parts_variables chip_pins net_of (drop (i + 1) firsts) (drop (i + 1) parts)) ∙ opened ∙ so_far)
    where
      tail : drop i parts ≡ part ∷ drop (i + 1) parts
      tail = drop_more parts i part lp ∙ ap (λ (p : PlanPart). p ∷ drop (i + 1) parts) (sym at)

      opened : list ++ (part_variables chip_pins net_of (get_or firsts i 0) part ++ parts_variables chip_pins net_of (drop (i + 1) firsts) (drop (i + 1) parts)) ≡ list ++ parts_variables chip_pins net_of (drop i firsts) (drop i parts)
      opened = rw (drop_more firsts i 0 lf, tail) refl

  pub parts_done : (list all : List Variable) → length firsts ≤ i → list ++ parts_variables chip_pins net_of (drop i firsts) (drop i parts) ≡ all → list ≡ all
  unfolding parts_variables
  parts_done list all past so_far =
      let none : parts_variables chip_pins net_of (drop i firsts) (drop i parts) ≡ [] = rw (drop_all i firsts past) refl in
      sym (append-nil list) ∙ ap (λ (l : List Variable). list ++ l) (sym none) ∙ so_far

-- how many variables a part has at most
abbrev pub most_variables : PlanPart → ℕ
most_variables part = if is_chip (Some part.kind) then 192 else 31

most_one : (chip : Bool) → (if chip then 192 else 31) ≡ 31 + 161 * (if chip then 1 else 0)
most_one true = refl
most_one false = refl

pub most_all : (parts : List PlanPart) → sum_by most_variables parts ≡ 31 * length parts + 161 * count_by is_chip (kinds_in parts)
most_all [] = refl
most_all (part ∷ parts) =
    let all = sum_by-cons most_variables part parts in
    let chips = sum_by-cons (λ (kind : Option PlanKind). if is_chip kind then 1 else 0) (Some part.kind) (kinds_in parts) in
    omega (arith, all, chips, most_one (is_chip (Some part.kind)), most_all parts)

-- an Uno shows 20 pins
pub uno_shown : (20 ≡ length (shown_names [] (plans.Stock kinds.ArduinoUno))) × (20 ≤ length (pin_names kinds.ArduinoUno))
unfolding pin_names
uno_shown = (refl, lit≤ tt)
