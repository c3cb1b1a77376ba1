-- Two units side by side over many cycles.
use Rattle.std.specs.Prelude.{◌≡◌, ℕ, zero, suc, ◌+◌, ◌-◌, ◌<◌, ◌≤◌, min, List, [], ◌||◌}
use Rattle.std.proofs.Common.{ap, ◌∙◌, refl, sym, arith, ◌⊎◌, inl, inr, subst}
use Rattle.std.proofs.Math.Nat.{min-eq_left, min-eq_right, min-le_left, min-le_right}
use Rattle.std.proofs.lemmas.Bool.{or_from, or_left, or_right}
use Rattle.sim_base.specs.declared.signal.Level.{Level}
use Rattle.avr_unit.specs.UnitMachine.{UnitMachine, steps, IsQuiet, FirstDue}
use Rattle.avr_unit.specs.Both.{both}

le_or : (a b : ℕ) → (a ≤ b) ⊎ (b ≤ a)
le_or a b = grind arith

module _ {A B : Type 0} (m : UnitMachine A) (n : UnitMachine B) where
  -- each takes its own steps
  pub steps_both : (s : A × B) (t k : ℕ) → steps (both m n) s t k ≡ (steps m s.0 t k, steps n s.1 t k)
  unfolding steps
  steps_both s t zero = refl
  steps_both s t (suc k) = ap (λ (x : A × B). (both m n).step x (t + k) [] []) (steps_both s t k)

  due_both : (s : A × B) (t k : ℕ) → (both m n).due (steps (both m n) s t k) (t + k) ≡ (m.due (steps m s.0 t k) (t + k) || n.due (steps n s.1 t k) (t + k))
  due_both s t k = ap (λ (x : A × B). (both m n).due x (t + k)) (steps_both s t k)

  quiet_both : (s : A × B) (t k : ℕ) → IsQuiet m s.0 t k → IsQuiet n s.1 t k → IsQuiet (both m n) s t k
  quiet_both s t k p q j h = due_both s t j ∙ or_from (m.due (steps m s.0 t j) (t + j)) (n.due (steps n s.1 t j) (t + j)) (p j h) (q j h)

  -- the earlier event is that of both
  pub first_both : (s : A × B) (t d e : ℕ) → FirstDue m s.0 t d → FirstDue n s.1 t e → FirstDue (both m n) s t (min d e)
  first_both s t d e p q = elim (le_or d e) [
    | inl less ↦ subst (λ (x : ℕ). FirstDue (both m n) s t x) (sym (min-eq_left less)) (record {
      later = p.later;
      end = p.end;
      quiet = quiet_both s t (d - t) p.quiet (λ k (h : k < d - t). q.quiet k (omega arith));
      event = λ h. ap (λ (x : A × B). (both m n).due x d) (steps_both s t (d - t)) ∙ or_left (m.due (steps m s.0 t (d - t)) d) (n.due (steps n s.1 t (d - t)) d) (p.event h);
    })
    | inr more ↦ subst (λ (x : ℕ). FirstDue (both m n) s t x) (sym (min-eq_right more)) (record {
      later = q.later;
      end = q.end;
      quiet = quiet_both s t (e - t) (λ k (h : k < e - t). p.quiet k (omega arith)) q.quiet;
      event = λ h. ap (λ (x : A × B). (both m n).due x e) (steps_both s t (e - t)) ∙ or_right (m.due (steps m s.0 t (e - t)) e) (n.due (steps n s.1 t (e - t)) e) (q.event h);
    })
  ]

  -- what two groups show at each cycle
  pub both_wait : (d e : ℕ) (a : ℕ → A) (b : ℕ → B) (p q : List Level → ℕ → Type 0) (l : List Level) (t u : ℕ) →
      ((l : List Level) (t u : ℕ) → p l t → t ≤ u → u ≤ d → p l u × (a u ≡ steps m (a t) t (u - t))) →
      ((l : List Level) (t u : ℕ) → q l t → t ≤ u → u ≤ e → q l u × (b u ≡ steps n (b t) t (u - t))) →
      p l t × q l t → t ≤ u → u ≤ min d e →
      (p l u × q l u) × ((a u, b u) ≡ steps (both m n) (a t, b t) t (u - t))
  both_wait d e a b p q l t u wait rest h le soon =
      let x = wait l t u h.0 le (le-trans soon (min-le_left d e)) in
      let y = rest l t u h.1 le (le-trans soon (min-le_right d e)) in
      ((x.0, y.0), ap (λ (i : A). (i, b u)) x.1 ∙ ap (λ (j : B). (steps m (a t) t (u - t), j)) y.1 ∙ sym (steps_both (a t, b t) t (u - t)))
    where
      le-trans : {a b c : ℕ} → a ≤ b → b ≤ c → a ≤ c
      le-trans h k = omega (arith, h, k)
