use Rattle.board_run.proofs.Common.{◌≡◌, ◌<◌, ◌∙◌, ap, sym, subst, arith, ℕ, List, length, Some, inl, inr, Option, length-set, slice_get, slice_set}
use Rattle.board_run.proofs.Common.{slice_get_within, IsFirstDue, some_same, lt_or_eq, get_set_same, get_set_other, get_within}
use Rattle.board_run.proofs.start.first_dues.Goals as goal

pub loop-i-preserved : goal.loop-i-preserved
loop-i-preserved g c =
    let p = g.P.Part in
    let i = c.loop-i.i in
    let inv = c.loop-i.invariant in
    let parts = c.args.parts.now in
    let x = c.index-parts-i.result in
    let here : slice_get parts i ≡ Some x = get_within parts i x c.loop-i-test.true ∙ ap Some (sym c.index-parts-i.is) in
    let inside = subst (λ (n : ℕ). i < n) (sym inv.long) c.loop-i-test.true in
    let set = c.set.ensures in
    record {
      long = ap length set ∙ length-set c.loop-i.dues i c.due-due.result ∙ inv.long;
      due = λ k y d l ey ed.
          let at = ap (λ (ds : List (Option ℕ)). slice_get ds k) (sym set) ∙ ed in
          elim (lt_or_eq k i l) [
            | inl less ↦ inv.due k y d less ey (sym (get_set_other c.loop-i.dues i k c.due-due.result (omega arith)) ∙ at)
            | inr same ↦
                let y_is : x ≡ y = some_same (sym here ∙ subst (λ (j : ℕ). slice_get parts j ≡ Some y) same ey) in
                let d_is : c.due-due.result ≡ d = some_same (sym (get_set_same c.loop-i.dues i c.due-due.result inside) ∙ subst (λ (j : ℕ). slice_get (slice_set c.loop-i.dues i c.due-due.result) j ≡ Some d) same at) in
                subst (λ (y : g.row.P.Denot). IsFirstDue p.machine (p.state y) (p.now y) d) y_is (subst (λ (d : Option ℕ). IsFirstDue p.machine (p.state x) (p.now x) d) d_is c.due-due.ensures)
          ];
    }

pub returns-clause-due : goal.returns-clause-due
returns-clause-due g c = λ k y d ey ed.
    let within = slice_get_within c.args.parts.now k y ey in
    c.loop-i.invariant.due k y d (omega (arith, within, c.loop-i-test.false)) ey (ap (λ (ds : List (Option ℕ)). slice_get ds k) (sym c.note_alone.ensures) ∙ ed)
