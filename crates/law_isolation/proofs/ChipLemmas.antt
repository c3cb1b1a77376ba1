-- The chips of a plan begin as chips.
use Rattle.std.proofs.Common.{◌≡◌, inl, inr, ◌<◌, ℕ, zero, suc, List, [], ◌∷◌, length, Bool, true, false, Option, None, Some, refl, ap, sym, ◌∙◌, subst, arith}
use Rattle.std.specs.Prelude.{slice_get, unwrap_or}
use Rattle.std.specs.List.{list_all}
use Rattle.std.specs.Option.{option_map}
use Rattle.std.proofs.lemmas.Bool.{and_parts, ltb-true}
use Rattle.std.proofs.lemmas.Option.{slice_get_cases}
use Rattle.part_catalog.specs.declared.settings.Settings.{Settings}
use Rattle.law_board.specs.Worlds.{IsQuietKind, TheseAre}
use Rattle.law_board.specs.Worlds as worlds
use Rattle.law_board.specs.Kinds.{IsRight, right_kind}
use Rattle.part_law.specs.Either.{either}
use Rattle.part_catalog.specs.declared.kind.Kind.TheVariants as kinds
use Rattle.avr_mcu.specs.Mcu.{mcu, start}
use Rattle.part_reactive.specs.Reaction.{reactive}
use Rattle.chip_host.specs.Chip.{Chip, chip}
use Rattle.chip_module.specs.declared.source.ChipSource.{ChipSource}
use Rattle.chip_module.specs.Sources.{pins_of}
use Rattle.board_build.specs.declared.plan.PlanKind.{PlanKind}
use Rattle.board_build.specs.declared.plan.PlanKind.TheVariants as plans
use Rattle.board_build.specs.declared.plan.PlanPart.{PlanPart}
use Rattle.board_build.specs.declared.plan.Plan.{Plan}
use Rattle.board_build.specs.Parts.{is_chip}
use Rattle.board_build.specs.IsPlan.{IsPlan, can_run}
use Rattle.any_part.specs.AnyBehaviour.{any_reaction}
use Rattle.any_part.specs.AnyPart.{AnyState, any}
use Rattle.any_part.specs.Start.{Contents, chip_at_start, start_in, starts}
use Rattle.any_part.proofs.StartLemmas.{all_ready, start_at}
use Rattle.law_isolation.proofs.RestLemmas.{is_chip_at}

-- a state of a chip
abbrev pub IsChipState : AnyState → Type 0
IsChipState = IsRight (IsRight (λ (s : Chip). Unit {0}))

chip_kind : IsQuietKind chip (λ (s : Chip). Unit {0})
chip_kind = record { stays = λ s t l i h. tt; no_contacts = λ s h. refl; no_byte = λ s t l i h. refl }

-- chips have no contacts and send no byte
pub quiet_chips : IsQuietKind any IsChipState
quiet_chips = right_kind mcu (either (reactive any_reaction) chip) (IsRight (λ (s : Chip). Unit {0})) (right_kind (reactive any_reaction) chip (λ (s : Chip). Unit {0}) chip_kind)

chip_starts : (budget : ℕ) (attrs : List (List ℕ × List ℕ)) (o : Option ChipSource) (s : AnyState) → option_map (chip_at_start budget attrs) o ≡ Some s → IsChipState s
chip_starts budget attrs None s e = absurd cc
chip_starts budget attrs (Some source) s e = let same : chip_at_start budget attrs source ≡ s = cc in subst IsChipState same tt

kind_starts : (has : Contents) (attrs : List (List ℕ × List ℕ)) (settings : Settings) (kind : PlanKind) (s : AnyState) → is_chip (Some kind) ≡ true → start_in has attrs settings kind ≡ Some s → IsChipState s
kind_starts has attrs settings (plans.Stock kind) s is e = absurd cc
kind_starts has attrs settings (plans.Chip c) s is e = chip_starts has.budget attrs (slice_get has.chips c) s e

-- the part at a place at which there is a chip
part_at : (parts : List PlanPart) (k : ℕ) → is_chip_at parts k ≡ true → (part : PlanPart) × (slice_get parts k ≡ Some part) × (is_chip (Some part.kind) ≡ true)
part_at [] zero is = absurd cc
part_at [] (suc k) is = absurd cc
part_at (part ∷ parts) zero is = (part, refl, is)
part_at (part ∷ parts) (suc k) is = part_at parts k is

-- the part at a place that there is
pub part_there : (parts : List PlanPart) (k : ℕ) → k < length parts → (part : PlanPart) × (slice_get parts k ≡ Some part)
part_there parts k less = elim (slice_get_cases parts k).1 [ inl x ↦ (x.0, x.2) | inr past ↦ absurd (omega (arith, past.0, less)) ]

-- and whether it is a chip
pub part_kind : (parts : List PlanPart) (k : ℕ) (part : PlanPart) → slice_get parts k ≡ Some part → is_chip (Some part.kind) ≡ is_chip_at parts k
part_kind [] zero part at = absurd cc
part_kind [] (suc k) part at = absurd cc
part_kind (first ∷ parts) zero part at = let same : first ≡ part = cc in ap (λ (p : PlanPart). is_chip (Some p.kind)) (sym same)
part_kind (first ∷ parts) (suc k) part at = part_kind parts k part at

-- a part that is no chip begins by the flash and its own attributes
pub stock_same : (one other : Contents) → one.flash ≡ other.flash → (attrs : List (List ℕ × List ℕ)) (settings : Settings) (kind : PlanKind) → is_chip (Some kind) ≡ false → start_in one attrs settings kind ≡ start_in other attrs settings kind
stock_same one other flash attrs settings (plans.Stock kinds.ArduinoUno) not = ap (λ (f : List ℕ). Some (inl (start f))) flash
stock_same one other flash attrs settings (plans.Stock kind) not = refl
stock_same one other flash attrs settings (plans.Chip c) not = absurd cc

-- a part at a place can be run where all can
ready_at : (n : ℕ) (parts : List PlanPart) (i : ℕ) (part : PlanPart) → list_all (λ (p : PlanPart). can_run n p.kind) parts ≡ true →
    slice_get parts i ≡ Some part → can_run n part.kind ≡ true
ready_at n [] zero part ready at = absurd cc
ready_at n [] (suc i) part ready at = absurd cc
ready_at n (first ∷ parts) zero part ready at =
    let both = and_parts (can_run n first.kind) (list_all (λ (p : PlanPart). can_run n p.kind) parts) ready in
    let same : first ≡ part = cc in
    ap (λ (p : PlanPart). can_run n p.kind) (sym same) ∙ both.0
ready_at n (first ∷ parts) (suc i) part ready at =
    ready_at n parts i part (and_parts (can_run n first.kind) (list_all (λ (p : PlanPart). can_run n p.kind) parts) ready).1 at

module _ (has : Contents) (plan : Plan) (is : IsPlan (pins_of has.chips) plan) where
  -- the wiring's chips are those of the plan
  pub chips_are : (k : ℕ) → worlds.is_chip plan.wiring k ≡ is_chip_at plan.parts k
  chips_are k = ap (λ (l : List Bool). unwrap_or (slice_get l k) false) is.chips

  -- a chip of the board is one of the project
  pub chip_there : (i : ℕ) (part : PlanPart) (c : ℕ) → slice_get plan.parts i ≡ Some part → part.kind ≡ plans.Chip c →
      (source : ChipSource) × (slice_get has.chips c ≡ Some source)
  chip_there i part c at kind =
      let ready = ap (can_run (length has.chips)) (sym kind) ∙ ready_at (length has.chips) plan.parts i part (all_ready has plan is) at in
      elim (slice_get_cases has.chips c).1 [ inl x ↦ (x.0, x.2) | inr past ↦ absurd (omega (arith, past.0, ltb-true c (length has.chips) ready)) ]

  pub chips_begin : TheseAre IsChipState (worlds.is_chip plan.wiring) (starts has plan.parts)
  chips_begin k s here at =
      let part = part_at plan.parts k (sym (chips_are k) ∙ here) in
      kind_starts has part.0.attrs part.0.settings part.0.kind s part.2 (sym (start_at has plan.parts k part.0 (all_ready has plan is) part.1) ∙ at)
