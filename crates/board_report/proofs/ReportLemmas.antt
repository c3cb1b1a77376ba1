-- The text of one more row.
use Rattle.std.proofs.Common.{◌≡◌, ◌∙◌, ◌⊎◌, ◌<◌, ◌≤◌, ◌+◌, ◌++◌, [], ◌∷◌, ℕ, true, false, Bool, List, length, get_or, drop, min, nat_le, map, Option, ap, add-one, refl, sym, subst, inl, inr, arith}
use Rattle.std.specs.List.{concat, flat_map}
use Rattle.std.specs.Option.{option_map}
use Rattle.std.proofs.lemmas.Bool.{cases_Bool, leb-true, leb-false}
use Rattle.std.proofs.lemmas.List.{append_assoc, append-nil, map-append, drop_more, drop_all}
use Rattle.std.proofs.lemmas.Grind.{flat_map-append}
use Rattle.std.proofs.lemmas.List.Folds.{concat-append}
use Rattle.sim_base.specs.declared.bench.Port.{Port}
use Rattle.sim_base.specs.declared.bench.WriteEnd.{WriteEnd}
use Rattle.sim_base.specs.declared.bench.WriteEnd.TheVariants as writes
use Rattle.sim_base.specs.Outside.{Outside}
use Rattle.sim_outcome_model.specs.Work.{Wrote}
use Rattle.sim_outcome_model.proofs.WriteLemmas.{grows_more, front_after}
use Rattle.board_model.specs.Walks.{below}
use Rattle.sim_report.specs.declared.row.ReportRow.{ReportRow}
use Rattle.sim_report.specs.Lines.{line_of}
use Rattle.board_build.specs.declared.plan.PlanPart.{PlanPart}
use Rattle.chip_output.specs.Output.{picture}
use Rattle.chip_report.specs.Lines.{output_text}
use Rattle.chip_host.specs.Chip.{Chip}
use Rattle.board_report.specs.Report.{text_of, chip_row, chip_text, chosen_text, parts_text}

-- the texts of rows, one after the other
pub text-append : (xs ys : List ReportRow) → text_of (xs ++ ys) ≡ text_of xs ++ text_of ys
text-append xs ys = ap concat (map-append line_of xs ys) ∙ concat-append (map line_of xs) (map line_of ys)

pub text-one : (row : ReportRow) → text_of (row ∷ []) ≡ line_of row
text-one row = append-nil (line_of row)

-- two rows behind a text
pub rows_both : (text : List ℕ) (r s : ReportRow) → (text ++ line_of r) ++ line_of s ≡ text ++ text_of (r ∷ s ∷ [])
rows_both text r s = append_assoc text (line_of r) (line_of s) ∙ ap (λ (l : List ℕ). text ++ (line_of r ++ l)) (sym (append-nil (line_of s)))

-- what was written of a text is what was written of an equal one
pub wrote_same : (end : WriteEnd) (p : Port) (t u : List ℕ) (a b : Outside) → t ≡ u → Wrote end p t a b → Wrote end p u a b
wrote_same end p t u a b e w = subst (λ (l : List ℕ). Wrote end p l a b) e w

-- two texts were written one after the other
pub wrote_both : (end : WriteEnd) (p : Port) (t u : List ℕ) (a m b : Outside) → Wrote writes.Ok p t a m → Wrote end p u m b → Wrote end p (t ++ u) a b
wrote_both writes.Ok p t u a m b x y = (grows_more _ _ _ t u (t ++ u) x.0 y.0 refl, y.1 ∙ x.1)
wrote_both writes.Failed p t u a m b x y = ((t ++ y.0.0, front_after t y.0.0 u y.0.1, grows_more _ _ _ t y.0.0 (t ++ y.0.0) x.0 y.0.2 refl), rw (← x.1) y.1)

-- the rows of the numbers below one more
pub rows_more : (f : ℕ → List ReportRow) (k : ℕ) → text_of (flat_map f (below (k + 1))) ≡ text_of (flat_map f (below k)) ++ text_of (f k)
rows_more f k = rw (add-one k) (ap (λ (l : List ReportRow). text_of l) (flat_map-append f (below k) (k ∷ []) ∙ ap (λ (l : List ReportRow). flat_map f (below k) ++ l) (append-nil (f k))) ∙ text-append (flat_map f (below k)) (f k))

-- a row, and those of the numbers below one more, behind a text
pub rows_after : (text : List ℕ) (row : ReportRow) (f : ℕ → List ReportRow) (k : ℕ) → (text ++ text_of (row ∷ flat_map f (below k))) ++ text_of (f k) ≡ text ++ text_of (row ∷ flat_map f (below (k + 1)))
rows_after text row f k =
    append_assoc text (text_of (row ∷ flat_map f (below k))) (text_of (f k))
    ∙ ap (λ (l : List ℕ). text ++ l) (append_assoc (line_of row) (text_of (flat_map f (below k))) (text_of (f k)) ∙ ap (λ (l : List ℕ). line_of row ++ l) (sym (rows_more f k)))

-- the lines of a chip
pub chip_lines : (text console : List ℕ) (row : ReportRow) (frame : Option (ℕ × (ℕ × List ℕ))) (part : PlanPart) (chip : Chip) → row ≡ chip_row part.id chip.dead
    → console ≡ chip.inventory.output.console → frame ≡ option_map picture chip.inventory.output.frame → (text ++ line_of row) ++ output_text part.id console frame ≡ text ++ chip_text part chip
chip_lines text console row frame part chip hr hc hf =
    rw (hr, hc, hf) (append_assoc text (line_of (chip_row part.id chip.dead)) (output_text part.id chip.inventory.output.console (option_map picture chip.inventory.output.frame)))

-- one more part of a plan and of a board
pub parts_more : {S X : Type 0} (says : PlanPart → S → List ℕ) (state : X → S) (chips : Bool) (plan : List PlanPart) (xs : List X) (i : ℕ) (part : PlanPart) (x : X) → i < length plan → i < length xs → part ≡ get_or plan i part → x ≡ get_or xs i x →
    chosen_text says chips part (state x) ++ parts_text says chips (drop (i + 1) plan) (map state (drop (i + 1) xs)) ≡ parts_text says chips (drop i plan) (map state (drop i xs))
unfolding parts_text
parts_more {X = X} says state chips plan xs i part x lp lx at it = rw (one, other) refl
  where
    one : drop i plan ≡ part ∷ drop (i + 1) plan
    one = drop_more plan i part lp ∙ ap (λ (p : PlanPart). p ∷ drop (i + 1) plan) (sym at)

    other : drop i xs ≡ x ∷ drop (i + 1) xs
    other = drop_more xs i x lx ∙ ap (λ (y : X). y ∷ drop (i + 1) xs) (sym it)

pub parts_done : {S X : Type 0} (says : PlanPart → S → List ℕ) (state : X → S) (chips : Bool) (plan : List PlanPart) (xs : List X) (i : ℕ) → min (length plan) (length xs) ≤ i → parts_text says chips (drop i plan) (map state (drop i xs)) ≡ []
unfolding parts_text
parts_done says state chips plan xs i past = go (cases_Bool (nat_le (length plan) i))
  where
    none : (l : List PlanPart) → parts_text says chips l [] ≡ []
    none [] = refl
    none (p ∷ ps) = refl

    go : (nat_le (length plan) i ≡ true) ⊎ (nat_le (length plan) i ≡ false) → parts_text says chips (drop i plan) (map state (drop i xs)) ≡ []
    go (inl few) = rw (drop_all i plan (leb-true (length plan) i few)) refl
    go (inr many) = rw (drop_all i xs (omega (arith, leb-false (length plan) i many))) (none (drop i plan))
