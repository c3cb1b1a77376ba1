-- Stretches of cycles, and a unit that lags behind by quiet ones.
use Rattle.std.proofs.Common.{◌⊎◌, inl, inr, true, Some, None, false, zero, suc, ◌≡◌, ℕ, ◌+◌, ◌-◌, ◌<◌, ◌≤◌, ◌∙◌, List, [], arith, ap, sym, subst, refl}
use Rattle.std.proofs.lemmas.Bool.{both_ways}
use Rattle.sim_base.specs.declared.signal.Level.{Level}
use Rattle.sim_base.specs.declared.limits.TheConstants.{MOST_CYCLES}
use Rattle.avr_unit.specs.UnitMachine.{UnitMachine, At, Laws, least, steps, IsQuiet, IsFirstDue, FirstDue}
use Rattle.avr_unit.specs.Lagging.{lag_first, quiet_requests}
use Rattle.avr_unit.specs.Late.{late_state, Lags, LateStands, Rests}
use Rattle.avr_unit.specs.Unheard.{Unheard}

le_or : (a b : ℕ) → (a ≤ b) ⊎ (b < a)
le_or a b = grind arith

module _ {U : Type 0} (m : UnitMachine U) where
  -- no cycle, and the last one
  pub step_none : (s : U) (t n : ℕ) → n ≡ 0 → steps m s t n ≡ s
  unfolding steps
  step_none s t n h = ap (steps m s t) h

  pub step_last : (s : U) (t n k : ℕ) → k ≡ n + 1 → steps m s t k ≡ m.step (steps m s t n) (t + n) [] []
  unfolding steps
  step_last s t n k h = let e : k ≡ suc n = omega arith in ap (steps m s t) e

  -- over quiet cycles what is asked of pins stays
  pub quiet_pad : Laws m → (s : U) (t n p : ℕ) → IsQuiet m s t n → m.pad (steps m s t n) p ≡ m.pad s p
  unfolding steps
  quiet_pad laws s t zero p quiet = refl
  quiet_pad laws s t (suc n) p quiet =
      laws.keeps_pad (steps m s t n) (t + n) [] p (quiet n (omega arith)) ∙ quiet_pad laws s t n p (λ k (h : k < n). quiet k (omega arith))

  -- and so does what ends power-down, or resets
  pub quiet_rouses : Laws m → (s : U) (t n : ℕ) (l : List Level) → IsQuiet m s t n → m.power.rouses (steps m s t n) l ≡ m.power.rouses s l
  unfolding steps
  quiet_rouses laws s t zero l quiet = refl
  quiet_rouses laws s t (suc n) l quiet =
      laws.power_laws.keeps_rouses (steps m s t n) (t + n) [] l (quiet n (omega arith)) ∙ quiet_rouses laws s t n l (λ k (h : k < n). quiet k (omega arith))

  pub quiet_resets : Laws m → (s : U) (t n u : ℕ) → IsQuiet m s t n → m.power.resets (steps m s t n) u ≡ m.power.resets s u
  unfolding steps
  quiet_resets laws s t zero u quiet = refl
  quiet_resets laws s t (suc n) u quiet =
      laws.power_laws.keeps_resets (steps m s t n) (t + n) u [] (quiet n (omega arith)) ∙ quiet_resets laws s t n u (λ k (h : k < n). quiet k (omega arith))

  -- the first event as a number
  pub first_none : (s : U) (t : ℕ) → t ≤ MOST_CYCLES → IsFirstDue m s t None → FirstDue m s t MOST_CYCLES
  first_none s t end quiet = record { later = end; end = omega arith; quiet = quiet; event = λ (h : MOST_CYCLES < MOST_CYCLES). absurd (omega arith) }

  pub first_some : (s : U) (t d : ℕ) → IsFirstDue m s t (Some d) → FirstDue m s t d
  first_some s t d first = record { later = first.0; end = omega (arith, first.1); quiet = first.2; event = λ _. first.3 }

  -- before its first event a unit is quiet, and no longer
  pub quiet_within : (s : U) (t d u : ℕ) → FirstDue m s t d → t ≤ u → u ≤ MOST_CYCLES → IsQuiet m s t (u - t) → u ≤ d
  quiet_within s t d u first on end quiet = elim (le_or u d) [
    | inl le ↦ le
    | inr less ↦
        let e : t + (d - t) ≡ d = omega (arith, first.later) in
        let no : m.due (steps m s t (d - t)) d ≡ false = ap (m.due (steps m s t (d - t))) (sym e) ∙ quiet (d - t) (omega (arith, less, first.later)) in
        let yes_due : m.due (steps m s t (d - t)) d ≡ true = first.event (omega (arith, less, end)) in
        absurd (both_ways (m.due (steps m s t (d - t)) d) no yes_due)
  ]

  -- the same state has one first event
  pub same_first : (u v : U) (t d e : ℕ) → u ≡ v → FirstDue m v t d → FirstDue m u t e → d ≡ e
  same_first u v t d e same first second =
      let later : e ≤ d = quiet_within v t d e first second.later second.end (λ k less. ap (λ (x : U). m.due (steps m x t k) (t + k)) (sym same) ∙ second.quiet k less) in
      let sooner : d ≤ e = quiet_within u t e d second first.later first.end (λ k less. ap (λ (x : U). m.due (steps m x t k) (t + k)) same ∙ first.quiet k less) in
      omega (arith, later, sooner)

  -- a unit at its own cycle
  pub late_here : (s : At U) (t : ℕ) (u : U) → s ≡ record { unit = u; cycle = t } → late_state m s t ≡ u
  late_here s t u e = let z : t - t ≡ 0 = omega arith in ap (λ (x : At U). late_state m x t) e ∙ step_none u t (t - t) z

  -- a unit that stands has had no event
  pub late_quiet : (s : At U) (due t : ℕ) → Lags m s due t → IsQuiet m s.unit s.cycle (t - s.cycle)
  late_quiet s due t h k less = h.first.quiet k (omega (arith, h.lags, h.soon))

  -- a unit that has gone on to the cycle in which it is asked keeps its first event and what it requests
  pub late_kept : Laws m → (s v : At U) (due request : ℕ) (l : List Level) (t : ℕ) → LateStands m s due request l t →
      v ≡ record { unit = late_state m s t; cycle = t } → LateStands m v due request l t
  late_kept laws s v due request l t h is =
      subst (λ (x : At U). LateStands m x due request l t) (sym is) (record {
        late = record { lags = omega arith; soon = h.late.soon; first = lag_first m s.unit s.cycle t due h.late.lags h.late.soon h.late.first };
        requests = h.requests ∙ sym (ap least (quiet_requests m laws s.unit s.cycle (t - s.cycle) l (late_quiet s due t h.late)));
      })

  -- one more cycle without an event
  late_next : (s : At U) (t : ℕ) → s.cycle ≤ t → late_state m s (t + 1) ≡ m.step (late_state m s t) t [] []
  late_next s t le =
      let e : t + 1 - s.cycle ≡ t - s.cycle + 1 = omega (arith, le) in
      let f : s.cycle + (t - s.cycle) ≡ t = omega (arith, le) in
      step_last s.unit s.cycle (t - s.cycle) (t + 1 - s.cycle) e ∙ ap (λ (x : ℕ). m.step (late_state m s t) x [] []) f

  pub late_due : (s : At U) (due t : ℕ) → Lags m s due t → t < due → m.due (late_state m s t) t ≡ false
  late_due s due t h less =
      let f : s.cycle + (t - s.cycle) ≡ t = omega (arith, h.lags) in
      ap (m.due (late_state m s t)) (sym f) ∙ h.first.quiet (t - s.cycle) (omega (arith, less, h.lags))

  -- what such a cycle leaves
  pub rest_state : Laws m → (s : At U) (due t : ℕ) (before now : List Level) → Lags m s due t → Rests m s due before now t →
      late_state m s (t + 1) ≡ m.step (late_state m s t) t before now
  rest_state laws s due t before now h r = late_next s t h.lags ∙ laws.deaf (late_state m s t) t [] now (late_due s due t h r.early) ∙ sym r.steps

  pub rest_pad : Laws m → (s : At U) (due t : ℕ) (before now : List Level) → Lags m s due t → Rests m s due before now t → (p : ℕ) →
      m.pad (m.step (late_state m s t) t before now) p ≡ m.pad (late_state m s t) p
  rest_pad laws s due t before now h r p = ap (λ (x : U). m.pad x p) r.steps ∙ laws.keeps_pad (late_state m s t) t now p (late_due s due t h r.early)

  pub rest_silent : Laws m → (s : At U) (due t : ℕ) (before now : List Level) → Lags m s due t → Rests m s due before now t → None ≡ m.sends (late_state m s t) t
  rest_silent laws s due t before now h r = sym (laws.keeps_silent (late_state m s t) t (late_due s due t h r.early))

  pub rest_stands : (s : At U) (due request t : ℕ) (before now : List Level) → LateStands m s due request before t → Rests m s due before now t → LateStands m s due request now (t + 1)
  rest_stands s due request t before now h r =
      let less = r.early in
      record {
        late = record { lags = omega (arith, h.late.lags); soon = omega (arith, less); first = h.late.first };
        requests = h.requests ∙ r.requests;
      }

-- a group that waits, and one that steps over a cycle without an event
module _ {U : Type 0} (m : UnitMachine U) (laws : Laws m) (t d : ℕ) (state : ℕ → U) (first : FirstDue m (state t) t d) where
  pub wait_requests : (u : ℕ) (l : List Level) → t ≤ u → u ≤ d → state u ≡ steps m (state t) t (u - t) → least (m.requests (state u) l) ≡ least (m.requests (state t) l)
  wait_requests u l le soon is =
      ap (λ (x : U). least (m.requests x l)) is
      ∙ ap least (quiet_requests m laws (state t) t (u - t) l (λ k (h : k < u - t). first.quiet k (omega (arith, soon))))

  group_due : t < d → m.due (state t) t ≡ false
  group_due less =
      let z : t + 0 ≡ t = omega arith in
      ap (λ (x : U). m.due x t) (sym (step_none m (state t) t 0 refl)) ∙ ap (m.due (steps m (state t) t 0)) (sym z) ∙ first.quiet 0 (omega (arith, less))

  pub move_none : t < d → (before now : List Level) → Unheard m (state t) t before now → (p : ℕ) → m.pad (m.step (state t) t before now) p ≡ m.pad (state t) p
  move_none less before now none p =
      let h = group_due less in
      ap (λ (x : U). m.pad x p) (none.steps h) ∙ laws.keeps_pad (state t) t now p h
