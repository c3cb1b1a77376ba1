-- The parts of a plan, with players in place of the chips, as they are loaded one after the other.
use Rattle.part_played.proofs.Common.{◌≡◌, ◌<◌, ◌≤◌, ◌+◌, ℕ, zero, suc, List, [], ◌∷◌, length, take, drop, get_or, Bool, true, false, Option, Some, inl, inr}
use Rattle.part_played.proofs.Common.{refl, ap, sym, ◌∙◌, subst, arith, zero-add, if◌then◌else◌, slice_get, slice_index, unwrap_or, sum_by, length-map}
use Rattle.part_played.proofs.Common.{length-drop, length-take-le, get_or-map, slice_get_read, slice_get-map, slice_get_cases, slice_get_within}
use Rattle.part_played.proofs.Common.{get_or_from_slice_get, no_pins, Fits, some_same, DriveRows, new_player, or_player, played, PlanKind, PlanPart, is_chip}
use Rattle.part_played.proofs.Common.{count_of, ChipSource, pins_of, AnyState, any, AnyPart, Contents, start_in, start_of, starts, AreReady, all_ready}
use Rattle.part_played.proofs.Common.{begins_valid, first_begun, start_at, starts_fit, starts_many, PlayedState, PlayedPart, Begins, rows_from, rows_of_part}
use Rattle.part_played.proofs.Common.{play_start}
use Rattle.std.specs.Option.{option_map}
use Rattle.std.proofs.lemmas.List.Sums.{sum_by_more_le}
use Rattle.std.proofs.lemmas.Bool.{ltb-true}
use Rattle.law_board.specs.Worlds as worlds
use Rattle.part_catalog.specs.declared.kind.Kind.{Kind}
use Rattle.board_build.specs.declared.plan.PlanKind.TheVariants as plans
use Rattle.board_build.specs.declared.plan.Plan.{Plan}
use Rattle.board_build.specs.IsPlan.{IsPlan, can_run, contact_count, kinds_in}
use Rattle.board_build.proofs.PinLemmas.{starts_at, starts_length}
use Rattle.any_part.specs.AnyPart as any_parts
use Rattle.any_part.specs.Start as starting
use Rattle.part_played.proofs.PlayLemmas.{AreAsMany, many_played, played_at, played_fits}
use Rattle.part_either.specs.declared.either.Either.TheVariants as eithers

no_contacts : (kind : PlanKind) → is_chip (Some kind) ≡ true → contact_count (Some kind) ≡ 0
no_contacts (plans.Stock kind) is = absurd cc
no_contacts (plans.Chip chip) is = refl

-- a start state has the pins and contacts of its part
start_pins : (has : Contents) (parts : List PlanPart) → AreReady has parts → (k : ℕ) (part : PlanPart) (s : AnyState) → slice_get parts k ≡ Some part → slice_get (starts has parts) k ≡ Some s →
    (length (any.drives s) ≡ count_of (pins_of has.chips) (Some part.kind)) × (length (any.contacts s) ≡ contact_count (Some part.kind))
start_pins has [] ready zero part s at e = absurd cc
start_pins has [] ready (suc k) part s at e = absurd cc
start_pins has (first ∷ parts) ready zero part s at e =
    let b = first_begun has first parts ready in
    let same : first ≡ part = some_same at in
    let is : b.0 ≡ s = some_same (sym (ap (λ (l : List AnyState). slice_get l 0) b.2) ∙ e) in (
      ap (λ (x : AnyState). length (any.drives x)) (sym is) ∙ b.1.0 ∙ ap (λ (p : PlanPart). count_of (pins_of has.chips) (Some p.kind)) same,
      ap (λ (x : AnyState). length (any.contacts x)) (sym is) ∙ b.1.1 ∙ ap (λ (p : PlanPart). contact_count (Some p.kind)) same,
    )
start_pins has (first ∷ parts) ready (suc k) part s at e =
    let b = first_begun has first parts ready in
    start_pins has parts b.3 k part s at (sym (ap (λ (l : List AnyState). slice_get l (suc k)) b.2) ∙ e)

-- a chip that can run is one of the project
pub source_there : (chips : List ChipSource) (kind : PlanKind) (chip : ℕ) (source : ChipSource) → kind ≡ plans.Chip chip → can_run (length chips) kind ≡ true → source ≡ get_or chips chip source → slice_get chips chip ≡ Some source
source_there chips kind chip source is can at =
    slice_get_read chips (length chips) chip source refl (ltb-true chip (length chips) (subst (λ (k : PlanKind). can_run (length chips) k ≡ true) is can)) at

-- how many pins a chip of the project has
pub chip_count : (chips : List ChipSource) (chip : ℕ) (source : ChipSource) → slice_get chips chip ≡ Some source → count_of (pins_of chips) (Some (plans.Chip chip)) ≡ length source.pins
chip_count chips chip source there =
    ap (λ (o : Option (List (Option (List ℕ)))). length (unwrap_or o []))
    (slice_get-map (λ (c : ChipSource). c.pins) chips chip ∙ ap (option_map (λ (c : ChipSource). c.pins)) there)

-- a part that is loaded
module _ (has : Contents) (rows : List DriveRows) (first : ℕ) (part : PlanPart) where
  abbrev start_as : PlanKind → Option PlayedState
  start_as kind =
      if is_chip (Some kind) then Some (inr (new_player (rows_from (pins_of has.chips) rows first (Some kind)))) else option_map inl (start_in has part.attrs part.settings kind)

  pub player_begins : (chip : ℕ) (source : ChipSource) (p : PlayedPart) → part.kind ≡ plans.Chip chip → slice_get has.chips chip ≡ Some source →
      p ≡ eithers.Right (record { player = new_player (take (length source.pins) (drop first rows)); wakes = 0; moved = no_pins }) → Begins (play_start has rows first part) p
  player_begins chip source p kind there is =
      let state : start_as part.kind ≡ Some (inr (new_player (take (length source.pins) (drop first rows)))) =
      ap start_as kind ∙ ap (λ (n : ℕ). Some (inr (new_player (take n (drop first rows))))) (chip_count has.chips chip source there) in
      subst (λ (x : PlayedPart). Begins (play_start has rows first part) x) (sym is) (record { state = state; cycle = refl; wakes = refl; valid = refl })

  pub stock_begins : (kind : Kind) (p : AnyPart) → part.kind ≡ plans.Stock kind → starting.Begins (start_in has part.attrs part.settings (plans.Stock kind)) p →
      Begins (play_start has rows first part) (eithers.Left p)
  stock_begins kind p is b =
      let state : start_as part.kind ≡ Some (inl (any_parts.state_of p)) = ap start_as is ∙ ap (option_map inl) b.state in
      record { state = state; cycle = b.cycle; wakes = b.wakes; valid = begins_valid (any_parts.state_of p) }

module _ (has : Contents) (plan : Plan) (is : IsPlan (pins_of has.chips) plan) where
  -- the pins of a part are pins of the board
  pub part_fits : (i : ℕ) (part : PlanPart) → slice_get plan.parts i ≡ Some part → slice_index plan.wiring.first_pin i + count_of (pins_of has.chips) (Some part.kind) ≤ length plan.wiring.net_of
  part_fits i part at =
      let of : PlanPart → Option PlanKind = λ (p : PlanPart). Some p.kind in
      let kinds : List (Option PlanKind) = kinds_in plan.parts in
      let inside = slice_get_within plan.parts i part at in
      let within : i < length kinds = omega (arith, length-map plan.parts of, inside) in
      let first : slice_index plan.wiring.first_pin i ≡ 0 + sum_by (count_of (pins_of has.chips)) (take i kinds) =
      ap (λ (l : List ℕ). slice_index l i) is.first_pins ∙ starts_at (pins_of has.chips) 0 kinds i within in
      let kind : get_or kinds i (Some part.kind) ≡ Some part.kind = get_or-map of plan.parts i part (Some part.kind) inside ∙ ap of (get_or_from_slice_get plan.parts i part part at) in
      omega (arith, first, sum_by_more_le (count_of (pins_of has.chips)) kinds i (Some part.kind) within, ap (count_of (pins_of has.chips)) kind, is.pins)

  pub firsts_many : length plan.wiring.first_pin ≡ length plan.parts
  firsts_many =
      ap (λ (l : List ℕ). length l) is.first_pins
      ∙ starts_length (pins_of has.chips) 0 (kinds_in plan.parts)
      ∙ length-map plan.parts (λ (p : PlanPart). Some p.kind)

  chip_at : (i : ℕ) (part : PlanPart) → slice_get plan.parts i ≡ Some part → worlds.is_chip plan.wiring i ≡ is_chip (Some part.kind)
  chip_at i part at =
      ap (λ (l : List Bool). unwrap_or (slice_get l i) false) is.chips
      ∙ ap (λ (o : Option Bool). unwrap_or o false) (slice_get-map is_chip (kinds_in plan.parts) i
      ∙ ap (option_map is_chip) (slice_get-map (λ (p : PlanPart). Some p.kind) plan.parts i ∙ ap (option_map (λ (p : PlanPart). Some p.kind)) at))

  part_there : (i : ℕ) → i < length plan.parts → (part : PlanPart) × (slice_get plan.parts i ≡ Some part)
  part_there i less = elim (slice_get_cases plan.parts i).1 [ inl x ↦ (x.0, x.2) | inr past ↦ absurd (omega (arith, past.0, less)) ]

  start_there : (i : ℕ) → i < length plan.parts → (s : AnyState) × (slice_get (starts has plan.parts) i ≡ Some s)
  start_there i less =
      let many = starts_many has plan.parts (all_ready has plan is) in
      elim (slice_get_cases (starts has plan.parts) i).1 [ inl x ↦ (x.0, x.2) | inr past ↦ absurd (omega (arith, past.0, less, many)) ]

  module _ (rows : List DriveRows) (long : length rows ≡ length plan.wiring.net_of) where
    abbrev pub all_played : List PlayedState
    all_played = played (worlds.is_chip plan.wiring) (rows_of_part (pins_of has.chips) plan rows) (starts has plan.parts)

    pub played_many : length all_played ≡ length plan.parts
    played_many = many_played (worlds.is_chip plan.wiring) (rows_of_part (pins_of has.chips) plan rows) 0 (starts has plan.parts) ∙ starts_many has plan.parts (all_ready has plan is)

    -- each part begins as it is loaded
    pub play_at : (i : ℕ) (part : PlanPart) → slice_get plan.parts i ≡ Some part → slice_get all_played i ≡ play_start has rows (slice_index plan.wiring.first_pin i) part
    play_at i part at = got ∙ by_kind (is_chip (Some part.kind)) refl
      where
        these : ℕ → Bool
        these = worlds.is_chip plan.wiring

        of_part : ℕ → List DriveRows
        of_part = rows_of_part (pins_of has.chips) plan rows

        first : ℕ
        first = slice_index plan.wiring.first_pin i

        s : AnyState
        s = (start_there i (slice_get_within plan.parts i part at)).0

        there : slice_get (starts has plan.parts) i ≡ Some s
        there = (start_there i (slice_get_within plan.parts i part at)).1

        begins : start_of has part ≡ Some s
        begins = sym (start_at has plan.parts i part (all_ready has plan is) at) ∙ there

        got : slice_get all_played i ≡ Some (if these i then inr (new_player (of_part i)) else inl s)
        got = let n : 0 + i ≡ i = zero-add i in
            played_at these of_part 0 i (starts has plan.parts) s there ∙ ap (λ (j : ℕ). Some (if these j then inr (new_player (of_part j)) else inl s)) n

        as_chip : Bool → Option PlayedState
        as_chip c = if c then Some (inr (new_player (rows_from (pins_of has.chips) rows first (Some part.kind)))) else option_map inl (start_of has part)

        by_kind : (b : Bool) → is_chip (Some part.kind) ≡ b → Some (if these i then inr (new_player (of_part i)) else inl s) ≡ as_chip (is_chip (Some part.kind))
        by_kind true k =
            ap (λ (c : Bool). Some (if c then inr (new_player (of_part i)) else inl s)) (chip_at i part at ∙ k)
            ∙ ap (λ (o : Option PlanPart). Some (inr (new_player (rows_from (pins_of has.chips) rows first (option_map (λ (p : PlanPart). p.kind) o))))) at
            ∙ sym (ap as_chip k)
        by_kind false k =
            ap (λ (c : Bool). Some (if c then inr (new_player (of_part i)) else inl s)) (chip_at i part at ∙ k)
            ∙ sym (ap (λ (o : Option AnyState). option_map inl o) begins)
            ∙ sym (ap as_chip k)

    as_many : AreAsMany any (worlds.is_chip plan.wiring) (rows_of_part (pins_of has.chips) plan rows) 0 (starts has plan.parts)
    as_many k s e here =
        let n : 0 + k ≡ k = zero-add k in
        let many = starts_many has plan.parts (all_ready has plan is) in
        let inside : k < length plan.parts = omega (arith, many, slice_get_within (starts has plan.parts) k s e) in
        let part = part_there k inside in
        let chip : is_chip (Some part.0.kind) ≡ true = sym (chip_at k part.0 part.1) ∙ ap (worlds.is_chip plan.wiring) (sym n) ∙ here in
        let has_pins = start_pins has plan.parts (all_ready has plan is) k part.0 s part.1 e in
        let first : ℕ = slice_index plan.wiring.first_pin k in
        let count : ℕ = count_of (pins_of has.chips) (Some part.0.kind) in
        let taken : length (take count (drop first rows)) ≡ count = taken_many count first rows (omega (arith, part_fits k part.0 part.1, long)) in
        let own : length (rows_of_part (pins_of has.chips) plan rows k) ≡ count =
        ap (λ (o : Option PlanPart). length (rows_from (pins_of has.chips) rows first (option_map (λ (p : PlanPart). p.kind) o))) part.1 ∙ taken in
        record {
          pins = ap (λ (j : ℕ). length (rows_of_part (pins_of has.chips) plan rows j)) n ∙ own ∙ sym has_pins.0;
          contacts = has_pins.1 ∙ no_contacts part.0.kind chip;
        }
      where
        taken_many : (count first : ℕ) (rows : List DriveRows) → first + count ≤ length rows → length (take count (drop first rows)) ≡ count
        taken_many count first rows less = length-take-le count (drop first rows) (omega (arith, length-drop first rows, less))

    pub all_fit : Fits (or_player any) plan.wiring all_played
    all_fit = played_fits any (worlds.is_chip plan.wiring) (rows_of_part (pins_of has.chips) plan rows) plan.wiring (starts has plan.parts) as_many (starts_fit has plan is)
