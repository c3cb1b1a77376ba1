use Rattle.board_run.proofs.Common.{◌≡◌, ◌<◌, ◌≤◌, ℕ, List, None, Some, subst, sym, arith, inl, inr, true, false, ◌∙◌, refl, ◌≢◌, slice_get, Input, input_at}
use Rattle.board_run.proofs.Common.{kept_of, AreBehind, wiring_of}
use Rattle.board_run.proofs.NextLemmas.{below_or, lags_late}
use Rattle.board_run.proofs.engine.Engine.next_cycle.Goals as goal

pub first_due-due-requires-clause-late : goal.first_due-due-requires-clause-late
first_due-due-requires-clause-late g c =
    let p = g.P.Part in
    let e = c.args.self.now in
    lags_late p.machine (wiring_of e) p.state p.now p.wakes e.cycle e.parts (kept_of e) c.requires.may.lags

pub returns-then-self : goal.returns-then-self
returns-then-self g c =
    let p = g.P.Part in
    let e = c.args.self.now in
    record {
      from = omega arith;
      within = c.requires.within;
      stays = λ _. refl;
      late = lags_late p.machine (wiring_of e) p.state p.now p.wakes e.cycle e.parts (kept_of e) c.requires.may.lags;
      silent = λ v k from before. absurd (omega (arith, from, before));
      behind = c.requires.may.behind;
      event = λ none. absurd (let x : true ≡ false = sym c.if-self.true ∙ none in cc);
    }

pub returns : goal.returns
returns g c =
    let e = c.args.self.now in
    let due = c.first_due-due in
    let input = c.first_input in
    let r : ℕ = input.result in
    let said = subst (λ (is : List Input). ((v k : ℕ) → e.cycle ≤ v → v < r → input_at is v k ≡ None) × AreBehind is e.input r × (r < due.result → (k : ℕ) × (input_at is r k ≢ None))) c.as_slice.ensures
    (input.ensures.silent, input.ensures.behind, input.ensures.one) in
    record {
      from = input.ensures.from;
      within = omega (arith, input.ensures.within, due.ensures.within);
      stays = λ is. absurd (let x : true ≡ false = sym is ∙ c.if-self.false in cc);
      late = λ k u ed. let least = due.ensures.due k u ed in omega (arith, least, input.ensures.within);
      silent = said.0;
      behind = said.1;
      event = λ _ less. elim (below_or r due.result) [
        | inl before ↦ inr (said.2 before)
        | inr not_before ↦
            let same : due.result ≡ r = omega (arith, input.ensures.within, not_before) in
            let before : due.result < c.args.n = omega (arith, same, less) in
            inl (subst (λ (u : ℕ). (k : ℕ) × (slice_get e.dues k ≡ Some (Some u))) same (due.ensures.one before))
      ];
    }
