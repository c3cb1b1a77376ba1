-- Two projects that differ in what their chips are made of have the same plan but for that.
use Rattle.std.proofs.Common.{◌≡◌, ◌≤◌, ◌∙◌, ◌&&◌, ℕ, List, [], ◌∷◌, ◌++◌, length, map, Bool, true, false, Option, Some, refl, ap, sym, subst, arith}
use Rattle.std.specs.Prelude.{if◌then◌else◌}
use Rattle.std.specs.List.{list_all, count_by, sum_by}
use Rattle.text_model.specs.Wave.{Variable}
use Rattle.law_board.specs.Alike.{Alike}
use Rattle.law_board.proofs.AlikeLemmas.{alike_tail}
use Rattle.board_build.specs.declared.plan.PlanKind.{PlanKind}
use Rattle.board_build.specs.declared.plan.PlanPart.{PlanPart}
use Rattle.board_build.specs.declared.plan.Plan.{Plan}
use Rattle.board_build.specs.Parts.{is_uno, is_chip}
use Rattle.board_build.specs.Pins.{count_of, starts_from}
use Rattle.board_build.specs.IsPlan.{IsPlan, can_run, contact_count, kinds_in}
use Rattle.board_report.specs.Report.{chosen_text, parts_text}
use Rattle.board_outputs.specs.Variables.{shown_names, pins_variables, part_variables, parts_variables}
use Rattle.law_isolation.specs.Worlds.{IsSamePart}

-- the parts of two plans, one by one
abbrev pub AreSameParts : List PlanPart → List PlanPart → Type 0
AreSameParts ps qs = Alike (λ k a b. IsSamePart a b) ps qs

tail_same : (p q : PlanPart) (ps qs : List PlanPart) → AreSameParts (p ∷ ps) (q ∷ qs) → AreSameParts ps qs
tail_same = alike_tail (λ k a b. IsSamePart a b)

pub kinds_same : (ps qs : List PlanPart) → AreSameParts ps qs → kinds_in ps ≡ kinds_in qs
kinds_same [] [] like = refl
kinds_same [] (q ∷ qs) like = let l = like.long in absurd (omega (arith, l))
kinds_same (p ∷ ps) [] like = let l = like.long in absurd (omega (arith, l))
kinds_same (p ∷ ps) (q ∷ qs) like =
    ap (λ (kind : PlanKind). Some kind ∷ kinds_in ps) (like.each 0 p q refl refl).kind
    ∙ ap (λ (l : List (Option PlanKind)). Some q.kind ∷ l) (kinds_same ps qs (tail_same p q ps qs like))

ready_same : (n : ℕ) (ps qs : List PlanPart) → AreSameParts ps qs →
    list_all (λ (part : PlanPart). can_run n part.kind) ps ≡ list_all (λ (part : PlanPart). can_run n part.kind) qs
ready_same n [] [] like = refl
ready_same n [] (q ∷ qs) like = let l = like.long in absurd (omega (arith, l))
ready_same n (p ∷ ps) [] like = let l = like.long in absurd (omega (arith, l))
ready_same n (p ∷ ps) (q ∷ qs) like =
    ap (λ (kind : PlanKind). can_run n kind && list_all (λ (part : PlanPart). can_run n part.kind) ps) (like.each 0 p q refl refl).kind
    ∙ ap (λ (all : Bool). can_run n q.kind && all) (ready_same n ps qs (tail_same p q ps qs like))

-- a plan of the same parts is one too
pub plan_same : (names : List (List (Option (List ℕ)))) (plan : Plan) (parts : List PlanPart) → AreSameParts plan.parts parts → IsPlan names plan →
    IsPlan names (record { parts = parts; wiring = plan.wiring; inputs = plan.inputs })
plan_same names plan parts like is = record {
  few = let l = like.long in omega (arith, l, is.few);
  ready = sym (ready_same (length names) plan.parts parts like) ∙ is.ready;
  one_uno = subst (λ (kinds : List (Option PlanKind)). count_by is_uno kinds ≡ 1) same is.one_uno;
  few_chips = subst (λ (kinds : List (Option PlanKind)). count_by is_chip kinds ≤ 8) same is.few_chips;
  wiring = is.wiring;
  first_pins = is.first_pins ∙ ap (starts_from names 0) same;
  chips = is.chips ∙ ap (map is_chip) same;
  pins = is.pins ∙ ap (sum_by (count_of names)) same;
  contacts = is.contacts ∙ ap (sum_by contact_count) same;
  for_parts = λ k input at. let l = like.long in omega (arith, l, is.for_parts k input at);
}
  where
    same : kinds_in plan.parts ≡ kinds_in parts
    same = kinds_same plan.parts parts like

-- and its wave shows the same
pub variables_same : (pins : List (List (Option (List ℕ)))) (net_of firsts : List ℕ) (ps qs : List PlanPart) → AreSameParts ps qs →
    parts_variables pins net_of firsts ps ≡ parts_variables pins net_of firsts qs
unfolding parts_variables
variables_same pins net_of [] ps qs like = refl
variables_same pins net_of (first ∷ firsts) [] [] like = refl
variables_same pins net_of (first ∷ firsts) [] (q ∷ qs) like = let l = like.long in absurd (omega (arith, l))
variables_same pins net_of (first ∷ firsts) (p ∷ ps) [] like = let l = like.long in absurd (omega (arith, l))
variables_same pins net_of (first ∷ firsts) (p ∷ ps) (q ∷ qs) like =
    let part = like.each 0 p q refl refl in
    let one : part_variables pins net_of first p ≡ part_variables pins net_of first q =
    ap (λ (id : List ℕ). pins_variables net_of id (is_chip (Some p.kind)) first (shown_names pins p.kind)) part.id
    ∙ ap (λ (kind : PlanKind). pins_variables net_of q.id (is_chip (Some kind)) first (shown_names pins kind)) part.kind in
    ap (λ (l : List Variable). l ++ parts_variables pins net_of firsts ps) one
    ∙ ap (λ (l : List Variable). part_variables pins net_of first q ++ l) (variables_same pins net_of firsts ps qs (tail_same p q ps qs like))

-- and so do the lines of its other parts
module _ {S : Type 0} (says : PlanPart → S → List ℕ) where
  line_same : (p q : PlanPart) (s : S) → IsSamePart p q → chosen_text says false p s ≡ chosen_text says false q s
  line_same p q s part = go (is_chip (Some p.kind)) refl
    where
      go : (chip : Bool) → is_chip (Some p.kind) ≡ chip → chosen_text says false p s ≡ chosen_text says false q s
      go true is =
          ap (λ (c : Bool). if c then [] else says p s) is
          ∙ sym (ap (λ (c : Bool). if c then [] else says q s) (ap (λ (kind : PlanKind). is_chip (Some kind)) (sym part.kind) ∙ is))
      go false is = ap (λ (r : PlanPart). chosen_text says false r s) (part.rest is)

  pub lines_same : (ps qs : List PlanPart) (ss : List S) → AreSameParts ps qs → parts_text says false ps ss ≡ parts_text says false qs ss
  unfolding parts_text
  lines_same [] [] ss like = refl
  lines_same [] (q ∷ qs) ss like = let l = like.long in absurd (omega (arith, l))
  lines_same (p ∷ ps) [] ss like = let l = like.long in absurd (omega (arith, l))
  lines_same (p ∷ ps) (q ∷ qs) [] like = refl
  lines_same (p ∷ ps) (q ∷ qs) (s ∷ ss) like =
      ap (λ (l : List ℕ). l ++ parts_text says false ps ss) (line_same p q s (like.each 0 p q refl refl))
      ∙ ap (λ (l : List ℕ). chosen_text says false q s ++ l) (lines_same ps qs ss (tail_same p q ps qs like))
