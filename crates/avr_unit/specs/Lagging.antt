-- A unit that stands at a cycle, seen at a later one: the cycles between have no event.
use Rattle.std.proofs.Common.{zero, suc, false, true, ◌≡◌, ℕ, ◌+◌, ◌-◌, ◌<◌, ◌≤◌, ◌∙◌, List, [], arith, ap, subst, refl}
use Rattle.sim_base.specs.declared.signal.Level.{Level}
use Rattle.avr_unit.specs.UnitMachine.{UnitMachine, Laws, steps, IsQuiet, FirstDue}

pub plus_zero : (a : ℕ) → a + 0 ≡ a
plus_zero a = omega arith

module _ {U : Type 0} (m : UnitMachine U) where
  -- cycles in two stretches
  pub steps_more : (s : U) (t a b : ℕ) → steps m s t (a + b) ≡ steps m (steps m s t a) (t + a) b
  unfolding steps
  steps_more s t a zero = ap (steps m s t) (plus_zero a)
  steps_more s t a (suc b) =
      let e : a + suc b ≡ suc (a + b) = omega arith in
      let f : t + (a + b) ≡ t + a + b = omega arith in
      ap (steps m s t) e ∙ ap (λ (x : U). m.step x (t + (a + b)) [] []) (steps_more s t a b) ∙ ap (λ (x : ℕ). m.step (steps m (steps m s t a) (t + a) b) x [] []) f

  -- a unit that stands at cycle a, seen at the later cycle u
  abbrev pub lagged : U → ℕ → ℕ → U
  lagged s a u = steps m s a (u - a)

  pub lag_at : (s : U) (a u k : ℕ) → a ≤ u → steps m s a (u - a + k) ≡ steps m (lagged s a u) u k
  lag_at s a u k le =
      let e : a + (u - a) ≡ u = omega arith in
      steps_more s a (u - a) k ∙ ap (λ (x : ℕ). steps m (lagged s a u) x k) e

  -- it goes on without being touched
  pub lag_skip : (s : U) (a u to : ℕ) → a ≤ u → u ≤ to → lagged s a to ≡ steps m (lagged s a u) u (to - u)
  lag_skip s a u to le h =
      let e : to - a ≡ u - a + (to - u) = omega arith in
      ap (steps m s a) e ∙ lag_at s a u (to - u) le

  -- quiet from its own cycle, so quiet from the later one
  pub lag_quiet : (s : U) (a u n : ℕ) → a ≤ u → IsQuiet m s a (u - a + n) → IsQuiet m (lagged s a u) u n
  lag_quiet s a u n le quiet k h =
      let e : a + (u - a + k) ≡ u + k = omega arith in
      subst (λ (x : U). m.due x (u + k) ≡ false) (lag_at s a u k le)
      (subst (λ (x : ℕ). m.due (steps m s a (u - a + k)) x ≡ false) e (quiet (u - a + k) (omega arith)))

  -- what is first due, is so for the lagging unit as well
  pub lag_first : (s : U) (a u d : ℕ) → a ≤ u → u ≤ d → FirstDue m s a d → FirstDue m (lagged s a u) u d
  lag_first s a u d le before first =
      let e : d - a ≡ u - a + (d - u) = omega arith in
      record {
        later = before;
        end = first.end;
        quiet = lag_quiet s a u (d - u) le (subst (λ (n : ℕ). IsQuiet m s a n) e first.quiet);
        event = λ h. subst (λ (x : U). m.due x d ≡ true) (ap (steps m s a) e ∙ lag_at s a u (d - u) le) (first.event h);
      }

  -- over quiet cycles what it requests stays
  pub quiet_requests : Laws m → (s : U) (t n : ℕ) (l : List Level) → IsQuiet m s t n → m.requests (steps m s t n) l ≡ m.requests s l
  unfolding steps
  quiet_requests laws s t zero l quiet = refl
  quiet_requests laws s t (suc n) l quiet =
      ap (λ (x : U). m.requests x l) (laws.deaf (steps m s t n) (t + n) [] l (quiet n (omega arith)))
      ∙ laws.keeps_requests (steps m s t n) (t + n) l (quiet n (omega arith)) ∙ quiet_requests laws s t n l (λ k (h : k < n). quiet k (omega arith))
