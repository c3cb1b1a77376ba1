-- A line in pieces.
use Rattle.std.proofs.Common.{◌≡◌, ℕ, List, [], ◌∷◌, ◌++◌, Option, None, Some, ap, sym, ◌∙◌, subst}
use Rattle.std.proofs.lemmas.List.{append_assoc, append-nil}
use Rattle.sim_base.specs.declared.bench.Port.TheVariants as ports
use Rattle.sim_base.specs.declared.bench.WriteEnd.{WriteEnd}
use Rattle.sim_base.specs.declared.bench.WriteEnd.TheVariants as writes
use Rattle.sim_base.specs.Causes.{WriteCause}
use Rattle.sim_base.specs.Outside.{Outside, WriteLeaves}
use Rattle.sim_outcome_model.specs.Work.{Wrote}
use Rattle.sim_report.specs.declared.row.ReportRow.{ReportRow}
use Rattle.sim_report.specs.Lines.{subject, id_of, spaced, words_of, line_of}

pub wrote : (e : WriteEnd) (a b : Outside) (text : List ℕ) → WriteLeaves e (a.written ports.Report) (b.written ports.Report) text →
    WriteCause e (a.faults ports.Report) (b.faults ports.Report) → Wrote e ports.Report text a b
wrote writes.Ok a b text l c = (l, c)
wrote writes.Failed a b text l c = (l, c.1)

pub same_text : (e : WriteEnd) (a b : Outside) (t u : List ℕ) → t ≡ u → Wrote e ports.Report t a b → Wrote e ports.Report u a b
same_text e a b t u is w = subst (λ (x : List ℕ). Wrote e ports.Report x a b) is w

with_id : (s i w : List ℕ) → ((s ++ 32 ∷ []) ++ i) ++ (w ++ 10 ∷ []) ≡ ((s ++ (32 ∷ i ++ [])) ++ w) ++ 10 ∷ []
with_id s i w =
    sym (append_assoc ((s ++ 32 ∷ []) ++ i) w (10 ∷ []))
    ∙ ap (λ (x : List ℕ). (x ++ w) ++ 10 ∷ []) (append_assoc s (32 ∷ []) i ∙ ap (λ (x : List ℕ). s ++ (32 ∷ x)) (sym (append-nil i)))

without_id : (s w : List ℕ) → s ++ (w ++ 10 ∷ []) ≡ ((s ++ []) ++ w) ++ 10 ∷ []
without_id s w = sym (append_assoc s w (10 ∷ [])) ∙ ap (λ (x : List ℕ). (x ++ w) ++ 10 ∷ []) (sym (append-nil s))

pub text_with_id : (row : ReportRow) (s i r : List ℕ) (o : Option (List ℕ)) → s ≡ subject row → o ≡ id_of row → o ≡ Some i → r ≡ spaced (words_of row) ++ 10 ∷ [] → ((s ++ 32 ∷ []) ++ i) ++ r ≡ line_of row
text_with_id row s i r o hs ho hi hr =
    let e : id_of row ≡ Some i = sym ho ∙ hi in
    rw (hs, hr, e) (with_id (subject row) i (spaced (words_of row)))

pub text_without_id : (row : ReportRow) (s r : List ℕ) (o : Option (List ℕ)) → s ≡ subject row → o ≡ id_of row → o ≡ None → r ≡ spaced (words_of row) ++ 10 ∷ [] → s ++ r ≡ line_of row
text_without_id row s r o hs ho hi hr =
    let e : id_of row ≡ None = sym ho ∙ hi in
    rw (hs, hr, e) (without_id (subject row) (spaced (words_of row)))
