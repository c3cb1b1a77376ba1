-- The plans of two projects that differ in what their chips are made of.
use Rattle.std.proofs.Common.{◌≡◌, ◌∙◌, ◌+◌, ℕ, suc, List, [], ◌∷◌, ◌++◌, map, drop, Bool, true, false, Option, None, Some, Result, Ok, Err, ap, sym, refl, arith, if◌then◌else◌, ok_or, option_map}
use Rattle.std.specs.List.{list_any, position_from, zip, sum_by}
use Rattle.std.specs.Str.{bytes_eq}
use Rattle.sim_base.specs.declared.fault.Refusal.{Refusal}
use Rattle.sim_base.specs.declared.fault.Place.TheVariants as places
use Rattle.sim_refusals.specs.Refusals.{TypeUnknown, IdRepeated, AttrValue, ChipMissing}
use Rattle.document_model.specs.declared.diagram.Diagram.{Diagram}
use Rattle.document_model.specs.declared.diagram.PartText.{PartText}
use Rattle.document_model.specs.declared.diagram.Wire.{Wire}
use Rattle.document_model.specs.declared.project.ChipFile.{ChipFile}
use Rattle.document_model.specs.declared.project.Project.{Project}
use Rattle.document_model.specs.Reading.{each_from, refusal}
use Rattle.input_texts.specs.declared.script.ScriptRow.{ScriptRow}
use Rattle.part_catalog.specs.declared.kind.Kind.{Kind}
use Rattle.part_catalog.specs.declared.settings.Settings.{Settings}
use Rattle.part_catalog.specs.Kinds.{named_kind}
use Rattle.part_catalog.specs.Attributes.{wired_kind}
use Rattle.board_build.specs.declared.plan.Plan.{Plan}
use Rattle.board_build.specs.declared.plan.PlanKind.{PlanKind}
use Rattle.board_build.specs.declared.plan.PlanKind.TheVariants as plans
use Rattle.board_build.specs.declared.plan.PlanPart.{PlanPart}
use Rattle.board_build.specs.Parts.{chip_place, chosen, few_chips, found_chip, ids_from, input_of, is_chip, is_chip_type, kind_of_part, one_uno, part_in_plan, planned, settings_in}
use Rattle.board_build.specs.Pins.{count_of, starts_from, wire_on_board}
use Rattle.board_build.specs.Plan.{plan_in, plan_of, wiring_of}
use Rattle.law_board.specs.Alike.{Alike}
use Rattle.law_isolation.specs.Worlds.{IsSamePart}
use Rattle.law_two_projects.specs.OtherChips.{IsSameDrawing, IsSameText, names_of}
use Rattle.law_two_projects.proofs.EachLemmas.{alike_first, alike_more, alike_none, alike_rest, both_steps, each_none, each_same, each_step, one_ok}

-- a chip stands at the same place in two lists of the same names
place_from : (i : ℕ) (name : List ℕ) (xs ys : List ChipFile) → map (λ (chip : ChipFile). chip.name) xs ≡ map (λ (chip : ChipFile). chip.name) ys →
    position_from (λ (chip : ChipFile). bytes_eq name chip.name) i xs ≡ position_from (λ (chip : ChipFile). bytes_eq name chip.name) i ys
place_from i name [] [] e = refl
place_from i name [] (y ∷ ys) e = absurd cc
place_from i name (x ∷ xs) [] e = absurd cc
place_from i name (x ∷ xs) (y ∷ ys) e =
    let first : x.name ≡ y.name = cc in
    let rest : map (λ (chip : ChipFile). chip.name) xs ≡ map (λ (chip : ChipFile). chip.name) ys = cc in
    ap (λ (n : List ℕ). if bytes_eq name n then Some i else position_from (λ (chip : ChipFile). bytes_eq name chip.name) (i + 1) xs) first
    ∙ ap (λ (o : Option ℕ). if bytes_eq name y.name then Some i else o) (place_from (i + 1) name xs ys rest)

module _ (project other : Project) (names : names_of project ≡ names_of other) where
  place_same : (name : List ℕ) → chip_place project.chips name ≡ chip_place other.chips name
  place_same name = place_from 0 name project.chips other.chips names

  -- both parts are of one kind
  kind_same : (k : ℕ) (a b : PartText) → IsSameText a b → kind_of_part project.chips k a ≡ kind_of_part other.chips k b
  kind_same k a b same = go (named_kind a.kind) refl ∙ ap (λ (kind : List ℕ). chosen other.chips k b (named_kind kind)) same.kind
    where
      go : (o : Option Kind) → named_kind a.kind ≡ o → chosen project.chips k a o ≡ chosen other.chips k b o
      go (Some kind) e = ap (λ (attrs : List (List ℕ × List ℕ)). Ok (Some (plans.Stock (wired_kind kind attrs)))) (same.attrs kind e)
      go None e =
          ap (λ (kind : List ℕ). if is_chip_type kind then Ok (option_map plans.Chip (chip_place project.chips (drop 5 kind))) else Err (refusal TypeUnknown (places.Part k))) same.kind
          ∙ ap (λ (o : Option ℕ). if is_chip_type b.kind then Ok (option_map plans.Chip o) else Err (refusal TypeUnknown (places.Part k))) (place_same (drop 5 b.kind))

-- a part of the catalogue has a type of the catalogue
stock_named : (chips : List ChipFile) (k : ℕ) (a : PartText) (kind : Kind) → kind_of_part chips k a ≡ Ok (Some (plans.Stock kind)) → (named : Kind) × (named_kind a.kind ≡ Some named)
stock_named chips k a kind e = go (named_kind a.kind) refl e
  where
    absent : (place : Option ℕ) → ◌≡◌ {A = Result (Option PlanKind) Refusal} (Ok (option_map plans.Chip place)) (Ok (Some (plans.Stock kind))) → ⊥
    absent None e = let bad : ◌≡◌ {A = Option PlanKind} None (Some (plans.Stock kind)) = one_ok None (Some (plans.Stock kind)) e in absurd cc
    absent (Some n) e = let bad : ◌≡◌ {A = Option PlanKind} (Some (plans.Chip n)) (Some (plans.Stock kind)) = one_ok (Some (plans.Chip n)) (Some (plans.Stock kind)) e in absurd cc

    chip : (is : Bool) → (if is then Ok (option_map plans.Chip (chip_place chips (drop 5 a.kind))) else Err (refusal TypeUnknown (places.Part k))) ≡ Ok (Some (plans.Stock kind)) → ⊥
    chip true e = absent (chip_place chips (drop 5 a.kind)) e
    chip false e = let bad : ◌≡◌ {A = Result (Option PlanKind) Refusal} (Err (refusal TypeUnknown (places.Part k))) (Ok (Some (plans.Stock kind))) = e in absurd cc

    go : (o : Option Kind) → named_kind a.kind ≡ o → chosen chips k a o ≡ Ok (Some (plans.Stock kind)) → (named : Kind) × (named_kind a.kind ≡ Some named)
    go (Some named) is e = (named, is)
    go None is e = absurd (chip (is_chip_type a.kind) e)

-- the ids are the same
ids_same : (seen : List (List ℕ)) (k : ℕ) (xs ys : List PartText) → Alike (λ k a b. IsSameText a b) xs ys → ids_from seen k xs ≡ ids_from seen k ys
unfolding ids_from
ids_same seen k [] [] h = refl
ids_same seen k [] (y ∷ ys) h = absurd (omega (arith, h.long))
ids_same seen k (x ∷ xs) [] h = absurd (omega (arith, h.long))
ids_same seen k (x ∷ xs) (y ∷ ys) h =
    ap (λ (id : List ℕ). if list_any (bytes_eq id) seen then Err (refusal IdRepeated (places.Part k)) else ids_from (seen ++ id ∷ []) (suc k) xs) (alike_first IsSameText x y xs ys h).id
    ∙ ap (λ (r : Result (List (List ℕ)) Refusal). if list_any (bytes_eq y.id) seen then Err (refusal IdRepeated (places.Part k)) else r)
    (ids_same (seen ++ y.id ∷ []) (suc k) xs ys (alike_rest IsSameText x y xs ys h))

-- what is planned of a part
planned_is : (k : ℕ) (kind : PlanKind) (text : PartText) (part : PlanPart) → part_in_plan k (kind, text) ≡ Ok part → (settings : Settings) × (part ≡ planned kind text settings)
planned_is k kind text part e = go (settings_in kind text.attrs) e
  where
    go : (o : Option Settings) → ok_or (option_map (planned kind text) o) (refusal AttrValue (places.Part k)) ≡ Ok part → (settings : Settings) × (part ≡ planned kind text settings)
    go (Some settings) e = (settings, sym (one_ok (planned kind text settings) part e))
    go None e = let bad : ◌≡◌ {A = Result PlanPart Refusal} (Err (refusal AttrValue (places.Part k))) (Ok part) = e in absurd cc

text_same : (a b : PartText) → a.kind ≡ b.kind → a.id ≡ b.id → a.attrs ≡ b.attrs → a ≡ b
text_same a b kind id attrs =
    ap (λ (l : List ℕ). record { kind = l; id = a.id; attrs = a.attrs }) kind
    ∙ ap (λ (l : List ℕ). record { kind = b.kind; id = l; attrs = a.attrs }) id
    ∙ ap (λ (l : List (List ℕ × List ℕ)). record { kind = b.kind; id = b.id; attrs = l }) attrs

found_is : (k : ℕ) (found : Option PlanKind) (kind : PlanKind) → found_chip k found ≡ Ok kind → found ≡ Some kind
found_is k None kind e = let bad : ◌≡◌ {A = Result PlanKind Refusal} (Err (refusal ChipMissing (places.Part k))) (Ok kind) = e in absurd cc
found_is k (Some is) kind e = ap Some (one_ok is kind e)

module _ (chips : List ChipFile) where
  -- one part of both plans
  part_same : (j k l : ℕ) (a b : PartText) (found : Option PlanKind) (kind : PlanKind) (p q : PlanPart) → IsSameText a b → kind_of_part chips j a ≡ Ok found → found_chip k found ≡ Ok kind →
      part_in_plan l (kind, a) ≡ Ok p → part_in_plan l (kind, b) ≡ Ok q → IsSamePart p q
  part_same j k l a b found kind p q same is there ep eq =
      let x = planned_is l kind a p ep in
      let y = planned_is l kind b q eq in
      record {
        id = ap (λ (part : PlanPart). part.id) x.1 ∙ same.id ∙ sym (ap (λ (part : PlanPart). part.id) y.1);
        kind = ap (λ (part : PlanPart). part.kind) x.1 ∙ sym (ap (λ (part : PlanPart). part.kind) y.1);
        rest = λ stock. alike kind (ap (λ (part : PlanPart). part.kind) x.1) stock (is ∙ ap Ok (found_is k found kind there)) ep eq;
      }
    where
      alike : (of : PlanKind) → p.kind ≡ of → is_chip (Some p.kind) ≡ false → kind_of_part chips j a ≡ Ok (Some of) → part_in_plan l (of, a) ≡ Ok p → part_in_plan l (of, b) ≡ Ok q → p ≡ q
      alike (plans.Chip c) is stock found ep eq = let bad : true ≡ false = sym (ap (λ (x : PlanKind). is_chip (Some x)) is) ∙ stock in absurd cc
      alike (plans.Stock s) is stock found ep eq =
          let named = stock_named chips j a s found in
          let text : a ≡ b = text_same a b same.kind same.id (same.attrs named.0 named.1) in
          one_ok p q (sym ep ∙ ap (λ (t : PartText). part_in_plan l (plans.Stock s, t)) text ∙ eq)

  parts_alike : (j k l : ℕ) (xs ys : List PartText) (found : List (Option PlanKind)) (kinds : List PlanKind) (ps qs : List PlanPart) → Alike (λ k a b. IsSameText a b) xs ys →
      each_from (kind_of_part chips) j xs ≡ Ok found → each_from found_chip k found ≡ Ok kinds →
      each_from part_in_plan l (zip kinds xs) ≡ Ok ps → each_from part_in_plan l (zip kinds ys) ≡ Ok qs → Alike (λ k a b. IsSamePart a b) ps qs
  parts_alike j k l [] [] found kinds ps qs h is there ep eq =
      let none : found ≡ [] = each_none (kind_of_part chips) j found is in
      let no : kinds ≡ [] = each_none found_chip k kinds (ap (λ (o : List (Option PlanKind)). each_from found_chip k o) (sym none) ∙ there) in
      let p : ps ≡ [] = each_none part_in_plan l ps (ap (λ (o : List PlanKind). each_from part_in_plan l (zip o [])) (sym no) ∙ ep) in
      let q : qs ≡ [] = each_none part_in_plan l qs (ap (λ (o : List PlanKind). each_from part_in_plan l (zip o [])) (sym no) ∙ eq) in
      rw (p, q) (alike_none IsSamePart)
  parts_alike j k l [] (y ∷ ys) found kinds ps qs h is there ep eq = absurd (omega (arith, h.long))
  parts_alike j k l (x ∷ xs) [] found kinds ps qs h is there ep eq = absurd (omega (arith, h.long))
  parts_alike j k l (x ∷ xs) (y ∷ ys) found kinds ps qs h is there ep eq =
      let f = each_step (kind_of_part chips) j x xs found is in
      let t = each_step found_chip k f.0 f.1 kinds (ap (λ (o : List (Option PlanKind)). each_from found_chip k o) (sym f.4) ∙ there) in
      let a = each_step part_in_plan l (t.0, x) (zip t.1 xs) ps (ap (λ (o : List PlanKind). each_from part_in_plan l (zip o (x ∷ xs))) (sym t.4) ∙ ep) in
      let b = each_step part_in_plan l (t.0, y) (zip t.1 ys) qs (ap (λ (o : List PlanKind). each_from part_in_plan l (zip o (y ∷ ys))) (sym t.4) ∙ eq) in
      rw (a.4, b.4) (alike_more IsSamePart a.0 b.0 a.1 b.1
      (part_same j k l x y f.0 t.0 a.0 b.0 (alike_first IsSameText x y xs ys h) f.2 t.2 a.2 b.2)
      (parts_alike (suc j) (suc k) (suc l) xs ys f.1 t.1 a.1 b.1 (alike_rest IsSameText x y xs ys h) f.3 t.3 a.3 b.3))

-- A plan, and what it was made of.
pub record Planned (diagram : Diagram) (pins : List (List (Option (List ℕ)))) (script : List ScriptRow) (found : List (Option PlanKind)) (ids : List (List ℕ)) (plan : Plan) : Type 0 where
  pub wires : List (ℕ × ℕ)
  pub kinds : List PlanKind
  pub joined : each_from (λ k. wire_on_board pins found ids) 1 diagram.wires ≡ Ok wires
  pub all_found : each_from found_chip 1 found ≡ Ok kinds
  pub parts : each_from part_in_plan 1 (zip kinds diagram.parts) ≡ Ok plan.parts
  pub inputs : each_from (λ k. input_of ids kinds) 1 script ≡ Ok plan.inputs
  pub wiring : plan.wiring ≡ wiring_of wires (starts_from pins 0 found) (sum_by (count_of pins) found) found

planned_in : (diagram : Diagram) (pins : List (List (Option (List ℕ)))) (script : List ScriptRow) (found : List (Option PlanKind)) (ids : List (List ℕ)) (plan : Plan) →
    plan_in diagram pins script found ids ≡ Ok plan → Planned diagram pins script found ids plan
planned_in diagram pins script found ids plan e =
    let w = both_steps (each_from (λ k. wire_on_board pins found ids) 1 diagram.wires) _ plan e in
    let u = both_steps (one_uno found) _ plan w.2 in
    let k = both_steps (each_from found_chip 1 found) _ plan u.2 in
    let p = both_steps (each_from part_in_plan 1 (zip k.0 diagram.parts)) _ plan k.2 in
    let f = both_steps (few_chips found) _ plan p.2 in
    let i = both_steps (each_from (λ n. input_of ids k.0) 1 script) _ plan f.2 in
    let is = sym (one_ok _ plan i.2) in
    record {
      wires = w.0;
      kinds = k.0;
      joined = w.1;
      all_found = k.1;
      parts = p.1 ∙ ap Ok (sym (ap (λ (x : Plan). x.parts) is));
      inputs = i.1 ∙ ap Ok (sym (ap (λ (x : Plan). x.inputs) is));
      wiring = ap (λ (x : Plan). x.wiring) is;
    }

-- two plans, of parts that differ in the attributes of chips alone
pub record ArePlansOf (plan twin : Plan) : Type 0 where
  pub parts : Alike (λ k a b. IsSamePart a b) plan.parts twin.parts
  pub wiring : plan.wiring ≡ twin.wiring
  pub inputs : plan.inputs ≡ twin.inputs

pub plans_alike : (project other : Project) (diagram drawn : Diagram) (pins : List (List (Option (List ℕ)))) (script : List ScriptRow) (plan twin : Plan) → names_of project ≡ names_of other →
    IsSameDrawing diagram drawn → plan_of project diagram pins script ≡ Ok plan → plan_of other drawn pins script ≡ Ok twin → ArePlansOf plan twin
unfolding plan_of
plans_alike project other diagram drawn pins script plan twin names same e d =
    let a = both_steps (each_from (kind_of_part project.chips) 1 diagram.parts) _ plan e in
    let b = both_steps (each_from (kind_of_part other.chips) 1 drawn.parts) _ twin d in
    let c = both_steps (ids_from [] 1 diagram.parts) _ plan a.2 in
    let f = both_steps (ids_from [] 1 drawn.parts) _ twin b.2 in
    let found : a.0 ≡ b.0 = one_ok a.0 b.0 (sym a.1 ∙ each_same IsSameText (kind_of_part project.chips) (kind_of_part other.chips) (kind_same project other names) 1 diagram.parts drawn.parts same.parts ∙ b.1) in
    let ids : c.0 ≡ f.0 = one_ok c.0 f.0 (sym c.1 ∙ ids_same [] 1 diagram.parts drawn.parts same.parts ∙ f.1) in
    let x : Planned diagram pins script a.0 c.0 plan = planned_in diagram pins script a.0 c.0 plan c.2 in
    let y : Planned drawn pins script a.0 c.0 twin =
    planned_in drawn pins script a.0 c.0 twin (ap (λ (l : List (Option PlanKind)). plan_in drawn pins script l c.0) found ∙ ap (λ (l : List (List ℕ)). plan_in drawn pins script b.0 l) ids ∙ f.2) in
    let wires : x.wires ≡ y.wires = one_ok x.wires y.wires (sym x.joined ∙ ap (λ (l : List Wire). each_from (λ k. wire_on_board pins a.0 c.0) 1 l) same.wires ∙ y.joined) in
    let kinds : x.kinds ≡ y.kinds = one_ok x.kinds y.kinds (sym x.all_found ∙ y.all_found) in
    record {
      parts = parts_alike project.chips 1 1 1 diagram.parts drawn.parts a.0 x.kinds plan.parts twin.parts same.parts a.1 x.all_found x.parts
          (ap (λ (l : List PlanKind). each_from part_in_plan 1 (zip l drawn.parts)) kinds ∙ y.parts);
      wiring = x.wiring ∙ ap (λ (l : List (ℕ × ℕ)). wiring_of l (starts_from pins 0 a.0) (sum_by (count_of pins) a.0) a.0) wires ∙ sym y.wiring;
      inputs = one_ok plan.inputs twin.inputs (sym x.inputs ∙ ap (λ (l : List PlanKind). each_from (λ k. input_of c.0 l) 1 script) kinds ∙ y.inputs);
    }
