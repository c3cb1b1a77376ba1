-- What the definition of a plan makes of every plan.
use Rattle.std.proofs.Common.{◌≡◌, ◌+◌, ◌<◌, ◌≤◌, ℕ, suc, List, [], ◌∷◌, length, map, get_or, Bool, true, false, Option, None, Some, Result, Ok, Err, refl, ap, sym, ◌∙◌, arith, inl, inr, slice_get, drop, length-append, subst}
use Rattle.std.specs.Prelude.{if◌then◌else◌, slice_index, IfOk}
use Rattle.std.specs.List.{All, list_all, sum_by, count_by, zip}
use Rattle.std.specs.Str.{bytes_eq}
use Rattle.std.specs.Option.{option_map, ok_or}
use Rattle.std.proofs.lemmas.Bool.{cases_Bool, cases_lt, lt-ltb}
use Rattle.std.proofs.lemmas.List.{length-map, map-id}
use Rattle.std.proofs.lemmas.Simd.{map-map}
use Rattle.std.proofs.lemmas.List.Elements.{All-map}
use Rattle.std.proofs.lemmas.List.Folds.{list_all-map}
use Rattle.std.proofs.lemmas.List.Sums.{sum_by-cons, list_all-from_AllPass}
use Rattle.std.proofs.lemmas.Slice.Zip.{firsts-zip}
use Rattle.std.proofs.lemmas.Option.{get_or_from_slice_get, slice_get_cases, slice_get_past}
use Rattle.sim_base.specs.declared.fault.Refusal.{Refusal}
use Rattle.sim_base.specs.declared.fault.Fault.{Fault}
use Rattle.sim_base.specs.declared.fault.Fault.TheVariants as faults
use Rattle.sim_base.specs.Reads.{Reads}
use Rattle.sim_base.specs.declared.wiring.Input.{Input}
use Rattle.board_model.specs.Fits.{IsWiring}
use Rattle.net_pins.specs.Labels.{IsBelow}
use Rattle.net_pins.specs.Numbering.{net_numbers, net_count}
use Rattle.net_pins.proofs.BoundLemmas.{numbers_below, length-net_numbers}
use Rattle.part_catalog.specs.declared.kind.Kind.{Kind}
use Rattle.part_catalog.specs.declared.kind.Kind.TheVariants as kinds
use Rattle.part_catalog.specs.Kinds.{named_kind}
use Rattle.part_catalog.specs.Attributes.{wired_kind}
use Rattle.document_model.specs.declared.diagram.PartText.{PartText}
use Rattle.document_model.specs.declared.diagram.Diagram.{Diagram}
use Rattle.document_model.specs.declared.project.ChipFile.{ChipFile}
use Rattle.document_model.specs.declared.project.Project.{Project}
use Rattle.document_model.specs.Reading.{◌>>=◌, refusal, each_from}
use Rattle.input_texts.specs.declared.script.ScriptRow.{ScriptRow}
use Rattle.board_build.specs.declared.plan.PlanKind.{PlanKind}
use Rattle.board_build.specs.declared.plan.PlanKind.TheVariants as plans
use Rattle.board_build.specs.declared.plan.PlanPart.{PlanPart}
use Rattle.board_build.specs.declared.plan.Plan.{Plan}
use Rattle.part_catalog.specs.declared.settings.Settings.{Settings}
use Rattle.sim_base.specs.declared.fault.Place.TheVariants as places
use Rattle.sim_refusals.specs.Refusals.{AttrValue, ScriptPart}
use Rattle.board_build.specs.Parts.{ids_from, chip_place, is_chip_type, chosen, kind_of_part, numbers_from, is_uno, one_of, one_uno, found_chip, settings_in, planned, part_in_plan, is_chip, no_ninth, few_chips, takes, input_for, input_of, place_of}
use Rattle.board_build.specs.Pins.{count_of, starts_from, wire_on_board, contacts_inside, resistors_in, pairs_inside, pairs_at}
use Rattle.board_build.specs.Plan.{nets_of_pairs, joined, wiring_of, plan_in, plan_of}
use Rattle.board_build.specs.IsPlan.{IsPlan, can_run, kinds_in, contact_count}
use Rattle.board_build.proofs.PinLemmas.{all_inside, contacts_each, resistors_each}
use Rattle.document_model.proofs.ReadingLemmas.{in_steps, each_all, each_map, each_length}
use Rattle.board_build.proofs.WireLemmas.{position_below, joined_below}

-- the parts of the plan are of the kinds that were found
found_some : (kind : Option PlanKind) (k : ℕ) (found : PlanKind) → found_chip k kind ≡ Ok found → Some found ≡ kind
found_some None k found e = absurd cc
found_some (Some kind) k found e = let same : kind ≡ found = cc in ap (λ (x : PlanKind). Some x) (sym same)

kept_kind : (k : ℕ) (x : PlanKind × PartText) (part : PlanPart) → part_in_plan k x ≡ Ok part → Some part.kind ≡ Some x.0
kept_kind k x part e = kept (settings_in x.0 x.1.attrs) e
  where
    kept : (o : Option Settings) → ok_or (option_map (planned x.0 x.1) o) (refusal AttrValue (places.Part k)) ≡ Ok part → Some part.kind ≡ Some x.0
    kept None e = absurd cc
    kept (Some settings) e = let same : planned x.0 x.1 settings ≡ part = cc in ap (λ (p : PlanPart). Some p.kind) (sym same)

pub same_kinds : (found : List (Option PlanKind)) (kinds : List PlanKind) (texts : List PartText) (parts : List PlanPart) → length texts ≡ length kinds →
    each_from found_chip 1 found ≡ Ok kinds → each_from part_in_plan 1 (zip kinds texts) ≡ Ok parts → kinds_in parts ≡ found
same_kinds found kinds texts parts same is more =
    let first = each_map part_in_plan (λ (part : PlanPart). Some part.kind) (λ (x : PlanKind × PartText). Some x.0) kept_kind 1 (zip kinds texts) parts more in
    let pairs = map-map (λ (x : PlanKind). Some x) (λ (x : PlanKind × PartText). x.0) (zip kinds texts) in
    let all = each_map found_chip (λ (x : PlanKind). Some x) (λ (x : Option PlanKind). x) (λ k kind y h. found_some kind k y h) 1 found kinds is in
    first ∙ sym pairs ∙ ap (λ (l : List PlanKind). map (λ (x : PlanKind). Some x) l) (firsts-zip kinds texts same) ∙ all ∙ map-id found

-- each part can run
abbrev runs_if : ℕ → Option PlanKind → Bool
runs_if chips None = true
runs_if chips (Some kind) = can_run chips kind

found_runs : (chips : List ChipFile) (k : ℕ) (part : PartText) (kind : Option PlanKind) → kind_of_part chips k part ≡ Ok kind → runs_if (length chips) kind ≡ true
found_runs chips k part kind e = chosen_runs (named_kind part.kind) e
  where
    chip_runs : (name : List ℕ) (o : Option ℕ) → chip_place chips name ≡ o → runs_if (length chips) (option_map plans.Chip o) ≡ true
    chip_runs name None e = refl
    chip_runs name (Some chip) e = let h = position_below (λ (chip : ChipFile). bytes_eq name chip.name) 0 chips chip e in lt-ltb chip (length chips) (omega arith)

    chosen_runs : (o : Option Kind) → chosen chips k part o ≡ Ok kind → runs_if (length chips) kind ≡ true
    chosen_runs (Some stock) e =
        let same : Some (plans.Stock (wired_kind stock part.attrs)) ≡ kind = cc in
        ap (runs_if (length chips)) (sym same)
    chosen_runs None e = elim (cases_Bool (is_chip_type part.kind)) [
      | inl chip ↦ let same : option_map plans.Chip (chip_place chips (drop 5 part.kind)) ≡ kind = cc (rw chip at e) in
          ap (runs_if (length chips)) (sym same) ∙ chip_runs (drop 5 part.kind) (chip_place chips (drop 5 part.kind)) refl
      | inr other ↦ let bad = rw other at e in absurd cc
    ]

all_run : (chips : List ChipFile) (texts : List PartText) (found : List (Option PlanKind)) (parts : List PlanPart) →
    each_from (kind_of_part chips) 1 texts ≡ Ok found → kinds_in parts ≡ found → list_all (λ (part : PlanPart). can_run (length chips) part.kind) parts ≡ true
all_run chips texts found parts e same =
    let all = each_all (kind_of_part chips) (λ kind. runs_if (length chips) kind ≡ true) (λ k part kind h. found_runs chips k part kind h) 1 texts found e in
    sym (list_all-map (runs_if (length chips)) (λ (part : PlanPart). Some part.kind) parts) ∙ ap (list_all (runs_if (length chips))) same ∙ list_all-from_AllPass (runs_if (length chips)) found all

-- one Uno is one number
one_more : (passes : Bool) (k : ℕ) (numbers : List ℕ) → length (if passes then k ∷ numbers else numbers) ≡ (if passes then 1 else 0) + length numbers
one_more true k numbers = omega arith
one_more false k numbers = omega arith

numbers_count : {A : Type 0} (test : A → Bool) (k : ℕ) (xs : List A) → length (numbers_from test k xs) ≡ count_by test xs
unfolding numbers_from
numbers_count test k [] = refl
numbers_count {A = A} test k (x ∷ xs) =
    one_more (test x) k (numbers_from test (suc k) xs)
    ∙ ap (λ (n : ℕ). (if test x then 1 else 0) + n) (numbers_count test (suc k) xs)
    ∙ sym (sum_by-cons (λ (y : A). if test y then 1 else 0) x xs)

one_number : (numbers : List ℕ) (u : Unit {0}) → one_of numbers ≡ Ok u → length numbers ≡ 1
one_number [] u e = absurd cc
one_number (first ∷ []) u e = refl
one_number (first ∷ second ∷ rest) u e = absurd cc

pub uno_counted : (kinds : List (Option PlanKind)) (u : Unit {0}) → one_uno kinds ≡ Ok u → count_by is_uno kinds ≡ 1
uno_counted kinds u e = sym (numbers_count is_uno 1 kinds) ∙ one_number (numbers_from is_uno 1 kinds) u e

-- no more than eight chips
few_numbers : (numbers : List ℕ) (u : Unit {0}) → no_ninth (slice_get numbers 8) ≡ Ok u → length numbers ≤ 8
few_numbers numbers u e = elim (slice_get_cases numbers 8).1 [ inl x ↦ absurd (ninth x.0 (ap no_ninth (sym x.2) ∙ e)) | inr past ↦ past.0 ]
  where
    ninth : (part : ℕ) → no_ninth (Some part) ≡ Ok u → ⊥
    ninth part e = cc

pub chips_counted : (kinds : List (Option PlanKind)) (u : Unit {0}) → few_chips kinds ≡ Ok u → count_by is_chip kinds ≤ 8
chips_counted kinds u e = let few = few_numbers (numbers_from is_chip 1 kinds) u e in omega (arith, few, numbers_count is_chip 1 kinds)

-- the numbers in a wiring are those of nets
pub from_all : {A : Type 0} (P : A → Type 0) (xs : List A) → All P xs → (k : ℕ) (x : A) → slice_get xs k ≡ Some x → P x
from_all P xs all k x e = elim (cases_lt k (length xs)) [
  | inl l ↦ subst P (get_or_from_slice_get xs k x x e) (all k x l)
  | inr past ↦ let none = slice_get_past xs k past in absurd cc
]

nets_below : (net_of : List ℕ) (nets : ℕ) (pairs : List (ℕ × ℕ)) → All (λ net. net < nets) net_of → All (IsBelow (length net_of)) pairs → All (IsBelow nets) (nets_of_pairs net_of pairs)
nets_below net_of nets pairs below inside =
    All-map (IsBelow nets) (λ (pair : ℕ × ℕ). (slice_index net_of pair.0, slice_index net_of pair.1)) pairs
    (λ k d (h : k < length pairs). let b = inside k d h in (below (get_or pairs k d).0 0 b.0, below (get_or pairs k d).1 0 b.1))

pub is_wiring : (wires : List (ℕ × ℕ)) (firsts : List ℕ) (count : ℕ) (kinds : List (Option PlanKind)) → All (IsBelow count) (joined wires firsts kinds) →
    All (IsBelow count) (pairs_inside contacts_inside firsts kinds) → All (IsBelow count) (pairs_inside resistors_in firsts kinds) → IsWiring (wiring_of wires firsts count kinds)
is_wiring wires firsts count kinds join contact resist =
    let pairs : List (ℕ × ℕ) = joined wires firsts kinds in
    let below : All (λ net. net < net_count pairs count) (net_numbers pairs count) = numbers_below pairs count join in
    let long : count ≡ length (net_numbers pairs count) = sym (length-net_numbers pairs count) in
    let ends : (inside : List (ℕ × ℕ)) → All (IsBelow count) inside → All (IsBelow (net_count pairs count)) (nets_of_pairs (net_numbers pairs count) inside) =
    λ inside h. nets_below (net_numbers pairs count) (net_count pairs count) inside below (subst (λ (n : ℕ). All (IsBelow n) inside) long h) in
    record {
      pins = from_all (λ net. net < net_count pairs count) (net_numbers pairs count) below;
      contacts = from_all (IsBelow (net_count pairs count)) (nets_of_pairs (net_numbers pairs count) (pairs_inside contacts_inside firsts kinds)) (ends (pairs_inside contacts_inside firsts kinds) contact);
      resistors = from_all (IsBelow (net_count pairs count)) (nets_of_pairs (net_numbers pairs count) (pairs_inside resistors_in firsts kinds)) (ends (pairs_inside resistors_in firsts kinds) resist);
    }

length_inside : (pins : List (List (Option (List ℕ)))) (inside : Option PlanKind → List (ℕ × ℕ)) (n : ℕ) (kinds : List (Option PlanKind)) →
    length (pairs_inside inside (starts_from pins n kinds) kinds) ≡ sum_by (λ kind. length (inside kind)) kinds
unfolding starts_from pairs_inside
length_inside pins inside n [] = refl
length_inside pins inside n (kind ∷ kinds) = omega (
  arith,
  length-append (pairs_at n (inside kind)) (pairs_inside inside (starts_from pins (n + count_of pins kind) kinds) kinds),
  length-map {B = ℕ × ℕ} (inside kind) (λ (pair : ℕ × ℕ). (n + pair.0, n + pair.1)),
  length_inside pins inside (n + count_of pins kind) kinds,
  sum_by-cons (λ k. length (inside k)) kind kinds,
)

-- an input is for a part, in its line's cycle
input_fits : (ids : List (List ℕ)) (kinds : List PlanKind) (row : ScriptRow) (input : Input) → input_of ids kinds row ≡ Ok input → (input.part < length kinds) × (input.cycle ≡ row.cycle)
input_fits ids kinds row input e = at (place_of ids row.part) e
  where
    taken : (part : ℕ) (o : Option PlanKind) → slice_get kinds part ≡ o →
        (if takes row.press row.value o then Ok (record { cycle = row.cycle; part = part; value = row.value }) else Err (refusal ScriptPart (places.Line row.line))) ≡ Ok input →
        (input.part < length kinds) × (input.cycle ≡ row.cycle)
    taken part None is e = absurd cc
    taken part (Some kind) is e = elim (cases_Bool (takes row.press row.value (Some kind))) [
      | inl takes_it ↦
          let same : record { cycle = row.cycle; part = part; value = row.value } ≡ input = cc (rw takes_it at e) in
          elim (cases_lt part (length kinds)) [
            | inl l ↦ (subst (λ (x : Input). x.part < length kinds) same l, ap (λ (x : Input). x.cycle) (sym same))
            | inr past ↦ let none = slice_get_past kinds part past in absurd cc
          ]
      | inr refuses ↦ let bad = rw refuses at e in absurd cc
    ]

    at : (o : Option ℕ) → input_for kinds row o ≡ Ok input → (input.part < length kinds) × (input.cycle ≡ row.cycle)
    at None e = absurd cc
    at (Some part) e = taken part (slice_get kinds part) refl e

ok_same : {A : Type 0} {x y : A} → ◌≡◌ {A = Result A Refusal} (Ok x) (Ok y) → x ≡ y
ok_same e = cc

module _ (diagram : Diagram) (pins : List (List (Option (List ℕ)))) (script : List ScriptRow) where
  -- the readings of a plan from one on
  abbrev from_inputs : List (ℕ × ℕ) → List (Option PlanKind) → List PlanPart → List Input → Result Plan Refusal
  from_inputs wires found parts inputs = Ok (record { parts = parts; wiring = wiring_of wires (starts_from pins 0 found) (sum_by (count_of pins) found) found; inputs = inputs })

  abbrev from_few : List (ℕ × ℕ) → List (Option PlanKind) → List (List ℕ) → List PlanKind → List PlanPart → Unit {0} → Result Plan Refusal
  from_few wires found ids kinds parts u = each_from (λ k. input_of ids kinds) 1 script >>= from_inputs wires found parts

  abbrev from_parts : List (ℕ × ℕ) → List (Option PlanKind) → List (List ℕ) → List PlanKind → List PlanPart → Result Plan Refusal
  from_parts wires found ids kinds parts = few_chips found >>= from_few wires found ids kinds parts

  abbrev from_chips : List (ℕ × ℕ) → List (Option PlanKind) → List (List ℕ) → List PlanKind → Result Plan Refusal
  from_chips wires found ids kinds = each_from part_in_plan 1 (zip kinds diagram.parts) >>= from_parts wires found ids kinds

  abbrev from_uno : List (ℕ × ℕ) → List (Option PlanKind) → List (List ℕ) → Unit {0} → Result Plan Refusal
  from_uno wires found ids u = each_from found_chip 1 found >>= from_chips wires found ids

  abbrev from_wires : List (Option PlanKind) → List (List ℕ) → List (ℕ × ℕ) → Result Plan Refusal
  from_wires found ids wires = one_uno found >>= from_uno wires found ids

  abbrev from_ids : List (Option PlanKind) → List (List ℕ) → Result Plan Refusal
  from_ids found ids = each_from (λ k. wire_on_board pins found ids) 1 diagram.wires >>= from_wires found ids

  abbrev from_kinds : List (Option PlanKind) → Result Plan Refusal
  from_kinds found = ids_from [] 1 diagram.parts >>= from_ids found

  -- a plan whose last reading is refused, and one that is read to its end
  pub refused_last : (found : List (Option PlanKind)) (ids : List (List ℕ)) (wires : List (ℕ × ℕ)) (u v : Unit {0}) (kinds : List PlanKind) (parts : List PlanPart) (fault : Fault) →
      each_from (λ k. wire_on_board pins found ids) 1 diagram.wires ≡ Ok wires → one_uno found ≡ Ok u → each_from found_chip 1 found ≡ Ok kinds →
      each_from part_in_plan 1 (zip kinds diagram.parts) ≡ Ok parts → few_chips found ≡ Ok v → Reads (λ (x : List Input). x) (Err fault) (each_from (λ k. input_of ids kinds) 1 script) →
      Reads (λ (plan : Plan). plan) (Err fault) (plan_in diagram pins script found ids)
  refused_last found ids wires u v kinds parts faults.OutOfMemory wire one chip more few_c h = tt
  refused_last found ids wires u v kinds parts (faults.Refused r) wire one chip more few_c h = rw (wire, one, chip, more, few_c, h) refl

  pub read_all : (found : List (Option PlanKind)) (ids : List (List ℕ)) (wires : List (ℕ × ℕ)) (u v : Unit {0}) (kinds : List PlanKind) (parts : List PlanPart) (inputs : List Input) →
      each_from (λ k. wire_on_board pins found ids) 1 diagram.wires ≡ Ok wires → one_uno found ≡ Ok u → each_from found_chip 1 found ≡ Ok kinds →
      each_from part_in_plan 1 (zip kinds diagram.parts) ≡ Ok parts → few_chips found ≡ Ok v → each_from (λ k. input_of ids kinds) 1 script ≡ Ok inputs →
      plan_in diagram pins script found ids ≡ from_inputs wires found parts inputs
  read_all found ids wires u v kinds parts inputs wire one chip more few_c input = rw (wire, one, chip, more, few_c, input) refl

  -- a plan whose first readings are refused, or are read
  pub refused_kinds : (project : Project) (fault : Fault) → Reads (λ (x : List (Option PlanKind)). x) (Err fault) (each_from (kind_of_part project.chips) 1 diagram.parts) →
      Reads (λ (plan : Plan). plan) (Err fault) (plan_of project diagram pins script)
  unfolding plan_of
  refused_kinds project faults.OutOfMemory h = tt
  refused_kinds project (faults.Refused r) h = rw h refl

  pub refused_ids : {V : Type 0} (view : V → List (List ℕ)) (project : Project) (found : List (Option PlanKind)) (parts : List PartText) (fault : Fault) → parts ≡ diagram.parts →
      each_from (kind_of_part project.chips) 1 diagram.parts ≡ Ok found → Reads view (Err fault) (ids_from [] 1 parts) → Reads (λ (plan : Plan). plan) (Err fault) (plan_of project diagram pins script)
  unfolding plan_of
  refused_ids view project found parts faults.OutOfMemory same is h = tt
  refused_ids view project found parts (faults.Refused r) same is h = let refused : ids_from [] 1 diagram.parts ≡ Err r = subst (λ (l : List PartText). ids_from [] 1 l ≡ Err r) same h in rw (is, refused) refl

  pub read_ids : (project : Project) (found : List (Option PlanKind)) (ids : List (List ℕ)) → each_from (kind_of_part project.chips) 1 diagram.parts ≡ Ok found →
      ids_from [] 1 diagram.parts ≡ Ok ids → plan_in diagram pins script found ids ≡ plan_of project diagram pins script
  unfolding plan_of
  read_ids project found ids is apart = rw (is, apart) refl

  module _ (project : Project) (few : length diagram.parts ≤ 64) (each : length pins ≡ length project.chips) where
    -- the plan of what was read in turn
    made : (found : List (Option PlanKind)) (ids : List (List ℕ)) → each_from (kind_of_part project.chips) 1 diagram.parts ≡ Ok found →
        (wires : List (ℕ × ℕ)) (uno : Unit {0}) (kinds : List PlanKind) (parts : List PlanPart) (inputs : List Input) →
        each_from (λ k. wire_on_board pins found ids) 1 diagram.wires ≡ Ok wires → one_uno found ≡ Ok uno → each_from found_chip 1 found ≡ Ok kinds →
        each_from part_in_plan 1 (zip kinds diagram.parts) ≡ Ok parts → (v : Unit {0}) → few_chips found ≡ Ok v → each_from (λ k. input_of ids kinds) 1 script ≡ Ok inputs →
        IsPlan pins (record { parts = parts; wiring = wiring_of wires (starts_from pins 0 found) (sum_by (count_of pins) found) found; inputs = inputs })
    made found ids is wires uno kinds parts inputs wire one chip more v eight input =
        let many : length found ≡ length diagram.parts = each_length (kind_of_part project.chips) 1 diagram.parts found is in
        let same_many : length kinds ≡ length found = each_length found_chip 1 found kinds chip in
        let texts : length diagram.parts ≡ length kinds = omega arith in
        let same : kinds_in parts ≡ found = same_kinds found kinds diagram.parts parts texts chip more in
        let long : length parts ≡ length found = sym (length-map parts (λ (part : PlanPart). Some part.kind)) ∙ ap (λ (l : List (Option PlanKind)). length l) same in
        let total : ℕ = sum_by (count_of pins) found in
        let firsts : List ℕ = starts_from pins 0 found in
        let join : All (IsBelow total) (joined wires firsts found) = joined_below pins found kinds ids diagram.wires wires chip wire in
        let fits = each_all (λ k. input_of ids kinds) (λ (i : Input). i.part < length kinds) (λ k row i h. (input_fits ids kinds row i h).0) 1 script inputs input in
        record {
          few = omega arith;
          ready = ap (λ (n : ℕ). list_all (λ (part : PlanPart). can_run n part.kind) parts) each ∙ all_run project.chips diagram.parts found parts is same;
          one_uno = ap (count_by is_uno) same ∙ uno_counted found uno one;
          few_chips = rw same (chips_counted found v eight);
          wiring = is_wiring wires firsts total found join (all_inside pins contacts_inside (contacts_each pins) found) (all_inside pins resistors_in (resistors_each pins) found);
          first_pins = ap (starts_from pins 0) (sym same);
          chips = ap (map is_chip) (sym same);
          pins = length-net_numbers (joined wires firsts found) total ∙ ap (sum_by (count_of pins)) (sym same);
          contacts = length-map {B = ℕ × ℕ} (pairs_inside contacts_inside firsts found) (λ (pair : ℕ × ℕ). (slice_index (net_numbers (joined wires firsts found) total) pair.0, slice_index (net_numbers (joined wires firsts found) total) pair.1))
              ∙ length_inside pins contacts_inside 0 found ∙ ap (sum_by contact_count) (sym same);
          for_parts = λ k i h. let below : i.part < length kinds = from_all (λ (i : Input). i.part < length kinds) inputs fits k i h in omega arith;
        }

    abbrev IsGood : Plan → Type 0
    IsGood plan = IsPlan pins plan × (map (λ (input : Input). input.cycle) plan.inputs ≡ map (λ (row : ScriptRow). row.cycle) script)

    module _ (plan : Plan) (found : List (Option PlanKind)) (ids : List (List ℕ)) (is : each_from (kind_of_part project.chips) 1 diagram.parts ≡ Ok found) where
      after_inputs : (wires : List (ℕ × ℕ)) (u : Unit {0}) (kinds : List PlanKind) (parts : List PlanPart) (inputs : List Input) →
          each_from (λ k. wire_on_board pins found ids) 1 diagram.wires ≡ Ok wires → one_uno found ≡ Ok u → each_from found_chip 1 found ≡ Ok kinds →
          each_from part_in_plan 1 (zip kinds diagram.parts) ≡ Ok parts → (v : Unit {0}) → few_chips found ≡ Ok v → each_from (λ k. input_of ids kinds) 1 script ≡ Ok inputs → from_inputs wires found parts inputs ≡ Ok plan → IsGood plan
      after_inputs wires u kinds parts inputs wire one chip more v eight input e =
          let as_made : record { parts = parts; wiring = wiring_of wires (starts_from pins 0 found) (sum_by (count_of pins) found) found; inputs = inputs } ≡ plan = ok_same e in
          let cycles = each_map (λ k. input_of ids kinds) (λ (input : Input). input.cycle) (λ (row : ScriptRow). row.cycle) (λ k row i h. (input_fits ids kinds row i h).1) 1 script inputs input in
          subst IsGood as_made (made found ids is wires u kinds parts inputs wire one chip more v eight input, cycles)

      after_parts : (wires : List (ℕ × ℕ)) (u : Unit {0}) (kinds : List PlanKind) (parts : List PlanPart) →
          each_from (λ k. wire_on_board pins found ids) 1 diagram.wires ≡ Ok wires → one_uno found ≡ Ok u → each_from found_chip 1 found ≡ Ok kinds →
          each_from part_in_plan 1 (zip kinds diagram.parts) ≡ Ok parts → from_parts wires found ids kinds parts ≡ Ok plan → IsGood plan
      after_parts wires u kinds parts wire one chip more e =
          let few_c = in_steps (few_chips found) (from_few wires found ids kinds parts) plan e in
          let x = in_steps (each_from (λ k. input_of ids kinds) 1 script) (from_inputs wires found parts) plan few_c.2 in
          after_inputs wires u kinds parts x.0 wire one chip more few_c.0 few_c.1 x.1 x.2

      after_wires : (wires : List (ℕ × ℕ)) → each_from (λ k. wire_on_board pins found ids) 1 diagram.wires ≡ Ok wires → from_wires found ids wires ≡ Ok plan → IsGood plan
      after_wires wires wire e =
          let one = in_steps (one_uno found) (from_uno wires found ids) plan e in
          let chip = in_steps (each_from found_chip 1 found) (from_chips wires found ids) plan one.2 in
          let x = in_steps (each_from part_in_plan 1 (zip chip.0 diagram.parts)) (from_parts wires found ids chip.0) plan chip.2 in
          after_parts wires one.0 chip.0 x.0 wire one.1 chip.1 x.1 x.2

      after_ids : from_ids found ids ≡ Ok plan → IsGood plan
      after_ids e = let x = in_steps (each_from (λ k. wire_on_board pins found ids) 1 diagram.wires) (from_wires found ids) plan e in after_wires x.0 x.1 x.2

    -- Each plan that the definition gives has a wiring of its parts.
    pub is_plan : (plan : Plan) → plan_of project diagram pins script ≡ Ok plan → IsPlan pins plan × (map (λ (input : Input). input.cycle) plan.inputs ≡ map (λ (row : ScriptRow). row.cycle) script)
    unfolding plan_of
    is_plan plan e =
        let found = in_steps (each_from (kind_of_part project.chips) 1 diagram.parts) from_kinds plan e in
        let ids = in_steps (ids_from [] 1 diagram.parts) (from_ids found.0) plan found.2 in
        after_ids plan found.0 ids.0 found.1 ids.2

    -- and so each answer that reads it
    pub plan_read : (result : Result Plan Fault) → Reads (λ (plan : Plan). plan) result (plan_of project diagram pins script) → IfOk result (λ (plan : Plan). IsPlan pins plan)
    plan_read (Ok plan) e = (is_plan plan e).0
    plan_read (Err fault) e = tt

    pub cycles_read : (result : Result Plan Fault) → Reads (λ (plan : Plan). plan) result (plan_of project diagram pins script) →
        IfOk result (λ (plan : Plan). map (λ (input : Input). input.cycle) plan.inputs ≡ map (λ (row : ScriptRow). row.cycle) script)
    cycles_read (Ok plan) e = (is_plan plan e).1
    cycles_read (Err fault) e = tt
