-- Which pins of the board there are.
use Rattle.std.proofs.Common.{◌≡◌, ◌+◌, ◌*◌, ◌<◌, ◌≤◌, ℕ, zero, suc, List, [], ◌∷◌, ◌++◌, length, take, drop, get_or, Bool, true, Option, None, Some, refl, ap, sym, ◌∙◌, arith, lit≤, lit<, nat_lt, ◌&&◌, inl, inr, slice_get, zero-add, append_assoc}
use Rattle.std.proofs.lemmas.List.{append-nil, drop_more, drop_all}
use Rattle.std.specs.List.{All, list_all, sum_by}
use Rattle.std.proofs.lemmas.List.Sums.{sum_by-cons, sum_by-le, sum_by-take-le}
use Rattle.std.proofs.lemmas.List.Folds.{list_all_at}
use Rattle.std.proofs.lemmas.List.Elements.{All-append}
use Rattle.std.proofs.lemmas.List.Elements.{All-map}
use Rattle.std.proofs.lemmas.Bool.{cases_lt, cases_Bool, and_parts}
use Rattle.std.proofs.lemmas.Option.{unwrap_or-slice_get, slice_get_past, slice_get_read}
use Rattle.std.proofs.lemmas.Grind.{get_or_default_zero}
use Rattle.std.proofs.lemmas.Bool.{ltb-true}
use Rattle.part_catalog.specs.declared.kind.Kind.{Kind}
use Rattle.part_catalog.specs.declared.kind.Kind.TheVariants as kinds
use Rattle.part_catalog.specs.Pins.{pin_names, joins_of, contacts_in}
use Rattle.net_pins.specs.Labels.{IsBelow}
use Rattle.board_build.specs.declared.plan.PlanKind.{PlanKind}
use Rattle.board_build.specs.declared.plan.PlanKind.TheVariants as plans
use Rattle.board_build.specs.Pins.{IsShort, IsLow, count_of, starts_from, pairs_at, pairs_inside, joins_in, contacts_inside, resistors_in, pin_in, pin_of_part}

few_names : (kind : Kind) → length (pin_names kind) ≤ 64
unfolding pin_names
few_names kinds.ArduinoUno = lit≤ tt
few_names kinds.Led = lit≤ tt
few_names kinds.Pushbutton = lit≤ tt
few_names kinds.SlideSwitch = lit≤ tt
few_names kinds.DipSwitch8 = lit≤ tt
few_names kinds.Resistor = lit≤ tt
few_names kinds.Junction = lit≤ tt
few_names kinds.Text = lit≤ tt
few_names kinds.Vcc = lit≤ tt
few_names kinds.Gnd = lit≤ tt
few_names kinds.Potentiometer = lit≤ tt
few_names kinds.GateNot = lit≤ tt
few_names kinds.GateBuffer = lit≤ tt
few_names kinds.GateAnd2 = lit≤ tt
few_names kinds.GateOr2 = lit≤ tt
few_names kinds.GateNand2 = lit≤ tt
few_names kinds.GateNor2 = lit≤ tt
few_names kinds.GateXor2 = lit≤ tt
few_names kinds.GateXnor2 = lit≤ tt
few_names kinds.ShiftRegister595 = lit≤ tt
few_names kinds.SevenSegment = lit≤ tt
few_names kinds.Lcd1602Full = lit≤ tt
few_names kinds.Lcd1602I2c = lit≤ tt
few_names kinds.Ssd1306 = lit≤ tt
few_names kinds.MembraneKeypad = lit≤ tt
few_names kinds.Source = lit≤ tt

-- whether both pins of all pairs are below a count
abbrev are_below : ℕ → List (ℕ × ℕ) → Bool
are_below count pairs = list_all (λ (pair : ℕ × ℕ). nat_lt pair.0 count && nat_lt pair.1 count) pairs

joins_below : (kind : Kind) → are_below (length (pin_names kind)) (joins_of kind) ≡ true
unfolding pin_names joins_of
joins_below kinds.ArduinoUno = refl
joins_below kinds.Led = refl
joins_below kinds.Pushbutton = refl
joins_below kinds.SlideSwitch = refl
joins_below kinds.DipSwitch8 = refl
joins_below kinds.Resistor = refl
joins_below kinds.Junction = refl
joins_below kinds.Text = refl
joins_below kinds.Vcc = refl
joins_below kinds.Gnd = refl
joins_below kinds.Potentiometer = refl
joins_below kinds.GateNot = refl
joins_below kinds.GateBuffer = refl
joins_below kinds.GateAnd2 = refl
joins_below kinds.GateOr2 = refl
joins_below kinds.GateNand2 = refl
joins_below kinds.GateNor2 = refl
joins_below kinds.GateXor2 = refl
joins_below kinds.GateXnor2 = refl
joins_below kinds.ShiftRegister595 = refl
joins_below kinds.SevenSegment = refl
joins_below kinds.Lcd1602Full = refl
joins_below kinds.Lcd1602I2c = refl
joins_below kinds.Ssd1306 = refl
joins_below kinds.MembraneKeypad = refl
joins_below kinds.Source = refl

contacts_below : (kind : Kind) → are_below (length (pin_names kind)) (contacts_in kind) ≡ true
unfolding pin_names contacts_in
contacts_below kinds.ArduinoUno = refl
contacts_below kinds.Led = refl
contacts_below kinds.Pushbutton = refl
contacts_below kinds.SlideSwitch = refl
contacts_below kinds.DipSwitch8 = refl
contacts_below kinds.Resistor = refl
contacts_below kinds.Junction = refl
contacts_below kinds.Text = refl
contacts_below kinds.Vcc = refl
contacts_below kinds.Gnd = refl
contacts_below kinds.Potentiometer = refl
contacts_below kinds.GateNot = refl
contacts_below kinds.GateBuffer = refl
contacts_below kinds.GateAnd2 = refl
contacts_below kinds.GateOr2 = refl
contacts_below kinds.GateNand2 = refl
contacts_below kinds.GateNor2 = refl
contacts_below kinds.GateXor2 = refl
contacts_below kinds.GateXnor2 = refl
contacts_below kinds.ShiftRegister595 = refl
contacts_below kinds.SevenSegment = refl
contacts_below kinds.Lcd1602Full = refl
contacts_below kinds.Lcd1602I2c = refl
contacts_below kinds.Ssd1306 = refl
contacts_below kinds.MembraneKeypad = refl
contacts_below kinds.Source = refl

list_all_each : {X : Type 0} (p : X → Bool) (xs : List X) → list_all p xs ≡ true → (k : ℕ) (d : X) → k < length xs → p (get_or xs k d) ≡ true
list_all_each p xs all k d h = elim (cases_Bool (p (get_or xs k d))) [
  | inl yes_p ↦ yes_p
  | inr no_p ↦ let e = list_all_at p xs k d h no_p in absurd cc
]

all_below : (count : ℕ) (pairs : List (ℕ × ℕ)) → are_below count pairs ≡ true → All (IsBelow count) pairs
all_below count pairs h k d l =
    let both = list_all_each (λ (pair : ℕ × ℕ). nat_lt pair.0 count && nat_lt pair.1 count) pairs h k d l in
    let (first, second) = and_parts (nat_lt (get_or pairs k d).0 count) (nat_lt (get_or pairs k d).1 count) both in
    (ltb-true _ _ first, ltb-true _ _ second)

resistors_stock : (kind : Kind) → All (IsBelow (length (pin_names kind))) (resistors_in (Some (plans.Stock kind)))
unfolding pin_names
resistors_stock kinds.ArduinoUno k d h = absurd (omega arith)
resistors_stock kinds.Led k d h = absurd (omega arith)
resistors_stock kinds.Pushbutton k d h = absurd (omega arith)
resistors_stock kinds.SlideSwitch k d h = absurd (omega arith)
resistors_stock kinds.DipSwitch8 k d h = absurd (omega arith)
resistors_stock kinds.Resistor zero d h = (lit< tt, lit< tt)
resistors_stock kinds.Resistor (suc k) d h = absurd (omega arith)
resistors_stock kinds.Junction k d h = absurd (omega arith)
resistors_stock kinds.Text k d h = absurd (omega arith)
resistors_stock kinds.Vcc k d h = absurd (omega arith)
resistors_stock kinds.Gnd k d h = absurd (omega arith)
resistors_stock kinds.Potentiometer k d h = absurd (omega arith)
resistors_stock kinds.GateNot k d h = absurd (omega arith)
resistors_stock kinds.GateBuffer k d h = absurd (omega arith)
resistors_stock kinds.GateAnd2 k d h = absurd (omega arith)
resistors_stock kinds.GateOr2 k d h = absurd (omega arith)
resistors_stock kinds.GateNand2 k d h = absurd (omega arith)
resistors_stock kinds.GateNor2 k d h = absurd (omega arith)
resistors_stock kinds.GateXor2 k d h = absurd (omega arith)
resistors_stock kinds.GateXnor2 k d h = absurd (omega arith)
resistors_stock kinds.ShiftRegister595 k d h = absurd (omega arith)
resistors_stock kinds.SevenSegment k d h = absurd (omega arith)
resistors_stock kinds.Lcd1602Full k d h = absurd (omega arith)
resistors_stock kinds.Lcd1602I2c k d h = absurd (omega arith)
resistors_stock kinds.Ssd1306 k d h = absurd (omega arith)
resistors_stock kinds.MembraneKeypad k d h = absurd (omega arith)
resistors_stock kinds.Source k d h = absurd (omega arith)

module _ (pins : List (List (Option (List ℕ)))) where
  pub starts_length : (n : ℕ) (kinds : List (Option PlanKind)) → length (starts_from pins n kinds) ≡ length kinds
  unfolding starts_from
  starts_length n [] = refl
  starts_length n (kind ∷ kinds) = ap suc (starts_length (n + count_of pins kind) kinds)

  -- a part's pins begin after those of the parts before it
  pub starts_at : (n : ℕ) (kinds : List (Option PlanKind)) (i : ℕ) → i < length kinds → get_or (starts_from pins n kinds) i 0 ≡ n + sum_by (count_of pins) (take i kinds)
  unfolding starts_from
  starts_at n [] i h = absurd (omega arith)
  starts_at n (kind ∷ kinds) zero h = omega arith
  starts_at n (kind ∷ kinds) (suc i) h =
      let l : i < length kinds = omega arith in
      omega (arith, starts_at (n + count_of pins kind) kinds i l, sum_by-cons (count_of pins) kind (take i kinds))

  module _ (short : All IsShort pins) where
    pub count_few : (kind : Option PlanKind) → count_of pins kind ≤ 64
    count_few None = lit≤ tt
    count_few (Some (plans.Stock kind)) = few_names kind
    count_few (Some (plans.Chip chip)) = elim (cases_lt chip (length pins)) [
      | inl inside ↦ rw (unwrap_or-slice_get pins chip []) (short chip [] inside)
      | inr past ↦ rw (slice_get_past pins chip past) (lit≤ tt)
    ]

    pub sum_few : (kinds : List (Option PlanKind)) → length kinds ≤ 64 → sum_by (count_of pins) kinds ≤ 4096
    sum_few kinds few =
        let most : sum_by (count_of pins) kinds ≤ length kinds * 64 = sum_by-le (count_of pins) 64 kinds (λ k d (h : k < length kinds). count_few (get_or kinds k d)) in
        omega (arith, most)

    pub starts_low : (kinds : List (Option PlanKind)) → length kinds ≤ 64 → All IsLow (starts_from pins 0 kinds)
    starts_low kinds few k d h =
        let inside : k < length kinds = rw (sym (starts_length 0 kinds)) h in
        let at = starts_at 0 kinds k inside in
        let same = get_or_default_zero (starts_from pins 0 kinds) k d h in
        let part = sum_by-take-le (count_of pins) kinds k in
        let all = sum_few kinds few in
        omega arith

  pub inside_below : (inside : Option PlanKind → List (ℕ × ℕ)) → ((kind : Option PlanKind) → All (IsBelow (count_of pins kind)) (inside kind)) →
      (n : ℕ) (kinds : List (Option PlanKind)) → All (IsBelow (n + sum_by (count_of pins) kinds)) (pairs_inside inside (starts_from pins n kinds) kinds)
  unfolding starts_from pairs_inside
  inside_below inside each n [] = λ k d h. absurd (omega arith)
  inside_below inside each n (kind ∷ kinds) =
      let whole : n + sum_by (count_of pins) (kind ∷ kinds) ≡ n + count_of pins kind + sum_by (count_of pins) kinds = omega (arith, sum_by-cons (count_of pins) kind kinds) in
      let total : ℕ = n + count_of pins kind + sum_by (count_of pins) kinds in
      rw whole (All-append (IsBelow total) (pairs_at n (inside kind)) (pairs_inside inside (starts_from pins (n + count_of pins kind) kinds) kinds)
      (All-map (IsBelow total) (λ (pair : ℕ × ℕ). (n + pair.0, n + pair.1)) (inside kind)
      (λ k d (h : k < length (inside kind)). let b = each kind k d h in (omega (arith, b.0), omega (arith, b.1))))
      (inside_below inside each (n + count_of pins kind) kinds))

  pub joins_each : (kind : Option PlanKind) → All (IsBelow (count_of pins kind)) (joins_in kind)
  joins_each None = λ k d h. absurd (omega arith)
  joins_each (Some (plans.Stock kind)) = all_below (length (pin_names kind)) (joins_of kind) (joins_below kind)
  joins_each (Some (plans.Chip chip)) = λ k d h. absurd (omega arith)

  pub contacts_each : (kind : Option PlanKind) → All (IsBelow (count_of pins kind)) (contacts_inside kind)
  contacts_each None = λ k d h. absurd (omega arith)
  contacts_each (Some (plans.Stock kind)) = all_below (length (pin_names kind)) (contacts_in kind) (contacts_below kind)
  contacts_each (Some (plans.Chip chip)) = λ k d h. absurd (omega arith)

  pub resistors_each : (kind : Option PlanKind) → All (IsBelow (count_of pins kind)) (resistors_in kind)
  resistors_each None = λ k d h. absurd (omega arith)
  resistors_each (Some (plans.Stock kind)) = resistors_stock kind
  resistors_each (Some (plans.Chip chip)) = λ k d h. absurd (omega arith)

  pub all_inside : (inside : Option PlanKind → List (ℕ × ℕ)) → ((kind : Option PlanKind) → All (IsBelow (count_of pins kind)) (inside kind)) →
      (kinds : List (Option PlanKind)) → All (IsBelow (sum_by (count_of pins) kinds)) (pairs_inside inside (starts_from pins 0 kinds) kinds)
  all_inside inside each kinds = rw (sym (zero-add (sum_by (count_of pins) kinds))) (inside_below inside each 0 kinds)

  -- a named pin of a part that there is
  pub pin_found : (kinds : List (Option PlanKind)) (pin : List ℕ) (part : ℕ) (kind : Option PlanKind) (n at : ℕ) (firsts : List ℕ) → firsts ≡ starts_from pins 0 kinds →
      part < length kinds → kind ≡ get_or kinds part kind → pin_in pins pin kind ≡ Some n → at ≡ n → Some (get_or firsts part 0 + at) ≡ pin_of_part pins kinds pin part
  pin_found kinds pin part kind n at firsts begin inside is named same =
      let there : slice_get kinds part ≡ Some kind = slice_get_read kinds (length kinds) part kind refl inside is in
      rw (begin, there, named, same) refl

-- pairs of one more part
pub pairs_more : (inside : Option PlanKind → List (ℕ × ℕ)) (firsts : List ℕ) (kinds : List (Option PlanKind)) (i : ℕ) (list pairs new all : List (ℕ × ℕ)) →
    i < length firsts → i < length kinds → pairs ≡ inside (get_or kinds i None) → new ≡ list ++ pairs_at (get_or firsts i 0) pairs →
    list ++ pairs_inside inside (drop i firsts) (drop i kinds) ≡ all → new ++ pairs_inside inside (drop (i + 1) firsts) (drop (i + 1) kinds) ≡ all
unfolding pairs_inside
pairs_more inside firsts kinds i list pairs new all lf lk has added so_far =
    rw (added, has) (append_assoc list (pairs_at (get_or firsts i 0) (inside (get_or kinds i None))) (pairs_inside inside (drop (i + 1) firsts) (drop (i + 1) kinds)) ∙ opened ∙ so_far)
  where
    opened : list ++ (pairs_at (get_or firsts i 0) (inside (get_or kinds i None)) ++ pairs_inside inside (drop (i + 1) firsts) (drop (i + 1) kinds))
        ≡ list ++ pairs_inside inside (drop i firsts) (drop i kinds)
    opened = rw (drop_more firsts i 0 lf, drop_more kinds i None lk) refl

pub pairs_done : (inside : Option PlanKind → List (ℕ × ℕ)) (firsts : List ℕ) (kinds : List (Option PlanKind)) (i : ℕ) (list all : List (ℕ × ℕ)) → length firsts ≤ i →
    list ++ pairs_inside inside (drop i firsts) (drop i kinds) ≡ all → list ≡ all
unfolding pairs_inside
pairs_done inside firsts kinds i list all h so_far =
    let none : pairs_inside inside (drop i firsts) (drop i kinds) ≡ [] = rw (drop_all i firsts h) refl in
    sym (append-nil list) ∙ ap (λ (l : List (ℕ × ℕ)). list ++ l) (sym none) ∙ so_far
