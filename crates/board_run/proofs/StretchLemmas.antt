-- A stretch of the board up to the next cycle in which something may happen.
use Rattle.board_run.proofs.Common.{◌≡◌, ◌≢◌, ◌⊎◌, ◌∙◌, ℕ, zero, suc, ◌-◌, ◌<◌, ◌≤◌, refl, ap, arith, subst, inl, inr, List, length, map, get_or, Bool, true}
use Rattle.board_run.proofs.Common.{false, Option, None, Some, ◌==◌, ◌||◌, slice_get, slice_get_within, MOST_CYCLES, Wiring, Input, Machine, Laws, glide}
use Rattle.board_run.proofs.Common.{input_at, get_within, some_map, IsStretch, HasEvent, AreLate, Kept, Lags, AreAt}
use Rattle.board_run.proofs.NextLemmas.{quiet_until, some_there}
use Rattle.board_run.proofs.LegLemmas.{at_here, stretch}

-- where something may happen later than now, no drive has changed, and cycle 0 is over
pub unchanged : (changed : Bool) (t r : ℕ) → ((changed || (t == 0)) ≡ true → r ≡ t) → t < r → (changed ≡ false) × (0 < t)
unchanged true t r now less = let e : r ≡ t = now refl in absurd (omega (arith, e, less))
unchanged false zero r now less = let e : r ≡ 0 = now refl in absurd (omega (arith, e, less))
unchanged false (suc t) r now less = (refl, omega arith)

pub neither : (changed : Bool) (t : ℕ) → changed ≡ false → 0 < t → (changed || (t == 0)) ≡ false
neither true t none later = absurd cc
neither false zero none later = absurd (omega arith)
neither false (suc t) none later = grind arith

module _ {S P : Type 0} (m : Machine S) (laws : Laws m) (w : Wiring) (state : P → S) (now wakes : P → ℕ) (inputs : List Input) where
  -- parts that stand at cycle t have a stretch up to u where none of them is due before u and the script says nothing
  pub stretch_until : (t u : ℕ) (parts : List P) (kept : Kept) → Lags m w state now wakes t parts kept → AreAt now t parts → kept.changed ≡ false →
      0 < t → t ≤ u → u ≤ MOST_CYCLES → AreLate kept.dues u → ((v k : ℕ) → t ≤ v → v < u → input_at inputs v k ≡ None) → IsStretch m w inputs (map state parts) t (u - t)
  stretch_until t u parts kept lags at fresh after order end late silent =
      subst (λ (ss : List S). IsStretch m w inputs ss t (u - t)) (at_here m laws w state now wakes inputs t parts at)
      (stretch m laws w state now wakes inputs t u parts kept lags fresh after order
      (λ k p ep.
      let inside : k < length kept.dues = (let l = slice_get_within parts k p ep in let n = lags.dues_long in omega (arith, l, n)) in
      let d : Option ℕ = get_or kept.dues k None in
      let ed : slice_get kept.dues k ≡ Some d = get_within kept.dues k None inside in
      quiet_until m state now wakes t u d p order end (lags.may k p d ep ed) (λ x e l. late k x (ed ∙ ap Some e)))
      silent)

  -- what comes next: the due cycle of a part that stands at cycle t, or a value of the script
  pub event_at : (t u : ℕ) (parts : List P) (kept : Kept) → Lags m w state now wakes t parts kept → AreAt now t parts →
      ((k : ℕ) × (slice_get kept.dues k ≡ Some (Some u))) ⊎ ((k : ℕ) × (input_at inputs u k ≢ None)) → HasEvent m inputs (map state parts) t u
  event_at t u parts kept lags at (inr x) = inr x
  event_at t u parts kept lags at (inl x) =
      let p = some_there parts x.0 (omega (arith, slice_get_within kept.dues x.0 (Some u) x.1, lags.dues_long)) in
      let first = (lags.may x.0 p.0 (Some u) p.1 x.1).first in
      inl (x.0, state p.0, some_map state parts x.0 p.0 p.1, subst (λ (c : ℕ). m.due (glide m (state p.0) c (u - c)) u ≡ true) (at x.0 p.0 p.1) first.3)
