-- The chips of a plan that are loaded beside the board of another project.
use Rattle.cli_twin.proofs.Common.{◌≡◌, ◌∙◌, ◌<◌, ◌≤◌, ◌+◌, ◌++◌, ◌∷◌, ℕ, List, [], length, map, take, get_or, Bool, true, false, Option, None, Some, refl, ap}
use Rattle.cli_twin.proofs.Common.{sym, subst, arith, slice_get, unwrap_or, All, option_map, option_to_list, append-nil, length-map, map-append, take_more}
use Rattle.cli_twin.proofs.Common.{slice_get_within, slice_get-map, same_Some, Fits, Alike, SamePins, chips_before, with_chips, is_chip, SameRest, PlanKind, PlanPart}
use Rattle.cli_twin.proofs.Common.{Plan, IsPlan, kinds_in, from_all, ChipSource, pins_of, AnyPart, AnyState, any, state_of, cycle_of, wakes_of, Contents}
use Rattle.cli_twin.proofs.Common.{start_in, start_of, starts, DifferInChips, IsSamePart, AreTwins, HaveNoContacts, chip_start, chip_starts, IsLoaded}
use Rattle.cli_twin.proofs.Common.{twin_view}
use Rattle.std.proofs.lemmas.Grind.{flat_map-append}
use Rattle.board_model.specs.Board.{states}
use Rattle.board_model.specs.Fresh.{AreFresh}
use Rattle.board_build.specs.declared.plan.PlanKind.TheVariants as plans
use Rattle.board_build.specs.Parts as parts_model
use Rattle.any_part.proofs.StartLemmas.{all_ready, begins_valid, start_at, starts_fit, starts_many}
use Rattle.law_isolation.proofs.Isolation.{isolated}
use Rattle.cli_twin.proofs.ContactLemmas.{free_of_contacts}
use Rattle.cli_twin.proofs.WithLemmas.{chip_inside, chips_there, fits_pins, item_there, own_at, with_same}

abbrev is_chip_part : PlanPart → Bool
is_chip_part part = parts_model.is_chip (Some part.kind)

-- a chip begins as in the board whose chip it is, and nothing else does here
own_start : (has : Contents) (attrs : List (List ℕ × List ℕ)) (settings : _) (kind : PlanKind) → parts_model.is_chip (Some kind) ≡ true → chip_start has.budget has.chips attrs kind ≡ start_in has attrs settings kind
own_start has attrs settings (plans.Stock kind) is = absurd cc
own_start has attrs settings (plans.Chip chip) is = refl

no_start : (has : Contents) (attrs : List (List ℕ × List ℕ)) (kind : PlanKind) → parts_model.is_chip (Some kind) ≡ false → chip_start has.budget has.chips attrs kind ≡ None
no_start has attrs (plans.Stock kind) is = refl
no_start has attrs (plans.Chip chip) is = absurd cc

module _ (has : Contents) (plan : Plan) (is : IsPlan (pins_of has.chips) plan) where
  many : length (starts has plan.parts) ≡ length plan.parts
  many = starts_many has plan.parts (all_ready has plan is)

  wired : (k : ℕ) (part : PlanPart) → slice_get plan.parts k ≡ Some part → is_chip plan.wiring k ≡ is_chip_part part
  wired k part at =
      ap (λ (l : List Bool). unwrap_or (slice_get l k) false) is.chips
      ∙ ap (λ (o : Option Bool). unwrap_or o false) (slice_get-map parts_model.is_chip (kinds_in plan.parts) k
      ∙ ap (option_map parts_model.is_chip) (slice_get-map (λ (p : PlanPart). Some p.kind) plan.parts k ∙ ap (option_map (λ (p : PlanPart). Some p.kind)) at))

  chips_many : length plan.wiring.chip ≡ length plan.parts
  chips_many =
      ap (λ (l : List Bool). length l) is.chips ∙ length-map (kinds_in plan.parts) parts_model.is_chip ∙ length-map plan.parts (λ (p : PlanPart). Some p.kind)

  begun : (k : ℕ) (part : PlanPart) → slice_get plan.parts k ≡ Some part → (s : AnyState) × (start_of has part ≡ Some s)
  begun k part at =
      let s = item_there (starts has plan.parts) k (omega (arith, many, slice_get_within plan.parts k part at)) in
      (s.0, sym (start_at has plan.parts k part (all_ready has plan is) at) ∙ s.1)

  -- the states of the chips alone are found by how many there are before
  chips_found : (k : ℕ) → is_chip plan.wiring k ≡ true → slice_get (chip_starts has.budget has.chips plan.parts) (chips_before plan.wiring k) ≡ slice_get (starts has plan.parts) k
  chips_found k here =
      let inside : k < length plan.parts = omega (arith, chip_inside plan.wiring k here, chips_many) in
      let part = item_there plan.parts k inside in
      own_at plan.wiring is_chip_part (start_of has) (λ (p : PlanPart). chip_start has.budget has.chips p.attrs p.kind) (λ p c. own_start has p.attrs p.settings p.kind c)
      (λ p c. no_start has p.attrs p.kind c) plan.parts k part.0 wired begun part.1 (sym (wired k part.0 part.1) ∙ here)
      ∙ sym (start_at has plan.parts k part.0 (all_ready has plan is) part.1)

-- two projects that differ in what their chips are made of begin with the same rest
module _ (one two : Contents) (plan : Plan) (is : IsPlan (pins_of one.chips) plan) (also : IsPlan (pins_of two.chips) plan) (flash : one.flash ≡ two.flash) (pins : pins_of one.chips ≡ pins_of two.chips) where
  rest_starts : SameRest plan.wiring (starts one plan.parts) (starts two plan.parts)
  unfolding states
  rest_starts =
      let same : Alike (λ k a b. IsSamePart a b) plan.parts plan.parts =
      record { long = refl; each = λ k a b ea eb. (let e : a ≡ b = same_Some a b (sym ea ∙ eb) in record { id = ap (λ (p : PlanPart). p.id) e; kind = ap (λ (p : PlanPart). p.kind) e; rest = λ stock. e }) } in
      let differ : DifferInChips one two plan plan = record { flash = flash; pins = pins; parts = same; wiring = refl; inputs = refl } in
      ((isolated one plan is 0).worlds two plan 0 (omega arith) differ (λ t h. absurd (omega (arith, h)))).rest 0 (omega arith)

  -- the one board with the other's chips is the other
  pub beside_is : with_chips plan.wiring (starts one plan.parts) (chip_starts two.budget two.chips plan.parts) ≡ starts two plan.parts
  beside_is = with_same plan.wiring (starts one plan.parts) (starts two plan.parts) (chip_starts two.budget two.chips plan.parts) rest_starts (chips_found two plan also)

  -- what is loaded is a twin
  pub are_twins : (parts chips : List AnyPart) → map state_of parts ≡ starts one plan.parts → map state_of chips ≡ chip_starts two.budget two.chips plan.parts → length parts ≤ 64 →
      AreFresh any state_of cycle_of wakes_of chips →
      AreTwins any state_of cycle_of wakes_of (twin_view parts chips plan.wiring)
  are_twins parts chips ps cs few fresh = record {
    start = refl;
    alive = refl;
    few = few;
    fits = subst (λ (ss : List AnyState). Fits any plan.wiring ss) (sym ps) (starts_fit one plan is);
    each = chips_there plan.wiring state_of chips (starts two plan.parts) (chips_many two plan also ∙ sym (many two plan also))
        (λ k here. ap (λ (l : List AnyState). slice_get l (chips_before plan.wiring k)) cs ∙ chips_found two plan also k here);
    fresh = fresh;
    pins = subst (λ (ss : List AnyState). SamePins any plan.wiring ss (with_chips plan.wiring ss (map state_of chips))) (sym ps)
        (subst (λ (ss : List AnyState). SamePins any plan.wiring (starts one plan.parts) (with_chips plan.wiring (starts one plan.parts) ss)) (sym cs)
        (subst (λ (ss : List AnyState). SamePins any plan.wiring (starts one plan.parts) ss) (sym beside_is)
        (fits_pins plan.wiring any (starts one plan.parts) (starts two plan.parts) rest_starts.long (starts_fit one plan is) (starts_fit two plan also))));
    unscripted = λ t k here. refl;
  }

  pub is_loaded : (parts chips : List AnyPart) → map state_of parts ≡ starts one plan.parts → map state_of chips ≡ chip_starts two.budget two.chips plan.parts → length parts ≤ 64 →
      AreFresh any state_of cycle_of wakes_of parts → AreFresh any state_of cycle_of wakes_of chips → IsLoaded one two plan parts chips
  is_loaded parts chips ps cs few fresh new =
      let others : with_chips plan.wiring (map state_of parts) (map state_of chips) ≡ starts two plan.parts =
      ap (λ (ss : List AnyState). with_chips plan.wiring ss (map state_of chips)) ps ∙ ap (λ (ss : List AnyState). with_chips plan.wiring (starts one plan.parts) ss) cs ∙ beside_is in
      record {
        fresh = fresh;
        twins = are_twins parts chips ps cs few new;
        contacts = subst (λ (ss : List AnyState). HaveNoContacts any plan.wiring ss (with_chips plan.wiring (map state_of parts) (map state_of chips))) (sym ps)
            (subst (λ (ss : List AnyState). HaveNoContacts any plan.wiring (starts one plan.parts) ss) (sym others) (free_of_contacts one two plan is also));
        own = ps;
        others = others;
      }

-- one more part of a plan, a chip or not
module _ (budget : ℕ) (chips : List ChipSource) (parts : List PlanPart) (i : ℕ) (part : PlanPart) (inside : i < length parts) (at : part ≡ get_or parts i part) (loaded : List AnyPart)
    (so_far : map state_of loaded ≡ chip_starts budget chips (take i parts)) where
  starts_next : chip_starts budget chips (take (i + 1) parts) ≡ chip_starts budget chips (take i parts) ++ (option_to_list (chip_start budget chips part.attrs part.kind) ++ [])
  starts_next =
      let next : take (i + 1) parts ≡ take i parts ++ (part ∷ []) = take_more parts i part inside ∙ ap (λ (p : PlanPart). take i parts ++ (p ∷ [])) (sym at) in
      ap (chip_starts budget chips) next ∙ flat_map-append (λ (p : PlanPart). option_to_list (chip_start budget chips p.attrs p.kind)) (take i parts) (part ∷ [])

  -- a chip, and another part
  pub chip_more : (next : AnyPart) → chip_start budget chips part.attrs part.kind ≡ Some (state_of next) → map state_of (loaded ++ next ∷ []) ≡ chip_starts budget chips (take (i + 1) parts)
  chip_more next is =
      map-append state_of loaded (next ∷ [])
      ∙ ap (λ (l : List AnyState). l ++ state_of next ∷ []) so_far
      ∙ ap (λ (o : Option AnyState). chip_starts budget chips (take i parts) ++ (option_to_list o ++ [])) (sym is)
      ∙ sym starts_next

  pub chip_none : chip_start budget chips part.attrs part.kind ≡ None → map state_of loaded ≡ chip_starts budget chips (take (i + 1) parts)
  chip_none is =
      so_far
      ∙ sym (starts_next ∙ ap (λ (o : Option AnyState). chip_starts budget chips (take i parts) ++ (option_to_list o ++ [])) is ∙ append-nil (chip_starts budget chips (take i parts)))

-- chips at cycle 0 that were not woken yet
abbrev pub IsNew : AnyPart → Type 0
IsNew p = (cycle_of p ≡ 0) × (wakes_of p ≡ 0)

pub are_fresh : (loaded : List AnyPart) → All IsNew loaded → AreFresh any state_of cycle_of wakes_of loaded
are_fresh loaded all = record {
  at_start = λ k p e. (from_all IsNew loaded all k p e).0;
  never_woken = λ k p e. (from_all IsNew loaded all k p e).1;
  are_valid = λ k p e. begins_valid (state_of p);
}
