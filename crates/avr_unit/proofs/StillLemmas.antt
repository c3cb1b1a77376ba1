-- A unit that stays as it is between its events: `due` of a state tells all of them, up to the first.
use Rattle.std.proofs.Common.{◌≡◌, ℕ, zero, suc, ◌+◌, ◌-◌, ◌<◌, ◌≤◌, ◌∙◌, ◌⊎◌, inl, inr, [], Bool, true, false, Option, None, Some, refl, arith, ap, sym, subst}
use Rattle.std.specs.Prelude.{◌==◌, ◌||◌, nat_lt, min, if◌then◌else◌}
use Rattle.std.proofs.Math.Nat.{min-eq_left, min-eq_right, min-le_left, min-le_right}
use Rattle.std.proofs.lemmas.Bool.Decides.{nat_tests}
use Rattle.std.proofs.lemmas.Bool.{both_ways, or_from, or_left, or_right}
use Rattle.sim_base.specs.declared.limits.TheConstants.{MOST_CYCLES}
use Rattle.avr_unit.specs.UnitMachine.{UnitMachine, At, steps, IsQuiet, IsFirstDue}
use Rattle.avr_unit.specs.Coming.{comes, IsAhead, or_end, within_run}

le_or : (a b : ℕ) → (a ≤ b) ⊎ (b < a)
le_or a b = grind arith

not_yet : (d t : ℕ) → t < d → (d == t) ≡ false
not_yet d t h = grind (arith, nat_tests)

is_there : (d : ℕ) → (d == d) ≡ true
is_there d = grind (arith, nat_tests)

-- no event comes before its cycle
pub before_it : (o : Option ℕ) (k : ℕ) → k < or_end o → comes o k ≡ false
before_it None k h = refl
before_it (Some d) k h = not_yet d k h

pub at_it : (o : Option ℕ) → or_end o < MOST_CYCLES → comes o (or_end o) ≡ true
at_it None h = absurd (omega (arith, h))
at_it (Some d) h = is_there d

pub ahead_of : (o : Option ℕ) (t : ℕ) → IsAhead o t → t ≤ MOST_CYCLES → t ≤ or_end o
ahead_of None t h end = end
ahead_of (Some d) t h end = h

-- a stretch in which it does not come lies before it
pub still_ahead : (o : Option ℕ) (t to : ℕ) → t ≤ to → IsAhead o t → ((k : ℕ) → k < to - t → comes o (t + k) ≡ false) → IsAhead o to
still_ahead None t to le h none = tt
still_ahead (Some d) t to le h none = elim (le_or to d) [
  | inl good ↦ good
  | inr bad ↦
      let here : t + (d - t) ≡ d = omega (arith, h) in
      absurd (both_ways (d == d) (subst (λ (x : ℕ). (d == x) ≡ false) here (none (d - t) (omega (arith, bad, h)))) (is_there d))
]

-- two of them
pub before_both : (a b : Option ℕ) (k : ℕ) → k < min (or_end a) (or_end b) → (comes a k || comes b k) ≡ false
before_both a b k h =
    let left : min (or_end a) (or_end b) ≤ or_end a = min-le_left _ _ in
    let right : min (or_end a) (or_end b) ≤ or_end b = min-le_right _ _ in
    or_from _ _ (before_it a k (omega (arith, h, left))) (before_it b k (omega (arith, h, right)))

pub at_both : (a b : Option ℕ) → min (or_end a) (or_end b) < MOST_CYCLES → (comes a (min (or_end a) (or_end b)) || comes b (min (or_end a) (or_end b))) ≡ true
at_both a b h = elim (le_or (or_end a) (or_end b)) [
  | inl less ↦
      let e : min (or_end a) (or_end b) ≡ or_end a = min-eq_left less in
      or_left _ _ (subst (λ (x : ℕ). comes a x ≡ true) (sym e) (at_it a (subst (λ (x : ℕ). x < MOST_CYCLES) e h)))
  | inr more ↦
      let le : or_end b ≤ or_end a = omega (arith, more) in
      let e : min (or_end a) (or_end b) ≡ or_end b = min-eq_right le in
      or_right _ _ (subst (λ (x : ℕ). comes b x ≡ true) (sym e) (at_it b (subst (λ (x : ℕ). x < MOST_CYCLES) e h)))
]

pub ahead_both : (a b : Option ℕ) (t : ℕ) → IsAhead a t → IsAhead b t → t ≤ MOST_CYCLES → t ≤ min (or_end a) (or_end b)
ahead_both a b t h k end =
    let x : t ≤ or_end a = ahead_of a t h end in
    let y : t ≤ or_end b = ahead_of b t k end in
    grind (arith, x, y)

module _ {U : Type 0} (m : UnitMachine U) (stays : (s : U) (t : ℕ) → m.due s t ≡ false → m.step s t [] [] ≡ s) where
  -- over cycles without an event nothing changes
  pub still : (s : U) (t n : ℕ) → IsQuiet m s t n → steps m s t n ≡ s
  unfolding steps
  still s t zero h = refl
  still s t (suc n) h =
      let same : steps m s t n ≡ s = still s t n (λ k less. h k (omega (arith, less))) in
      ap (λ (x : U). m.step x (t + n) [] []) same ∙ stays s (t + n) (subst (λ (x : U). m.due x (t + n) ≡ false) same (h n (omega arith)))

  -- a state that is not due in a stretch stays over it
  pub stands : (s : U) (t n : ℕ) → ((k : ℕ) → k < n → m.due s (t + k) ≡ false) → steps m s t n ≡ s
  unfolding steps
  stands s t zero h = refl
  stands s t (suc n) h =
      let same : steps m s t n ≡ s = stands s t n (λ k less. h k (omega (arith, less))) in
      ap (λ (x : U). m.step x (t + n) [] []) same ∙ stays s (t + n) (h n (omega arith))

  pub rests : (s : U) (t n : ℕ) → ((k : ℕ) → k < n → m.due s (t + k) ≡ false) → IsQuiet m s t n
  rests s t n h k less = subst (λ (x : U). m.due x (t + k) ≡ false) (sym (stands s t k (λ j lesser. h j (omega (arith, less, lesser))))) (h k less)

  -- and a quiet stretch is one in which the state is not due
  pub none_due : (s : U) (t n : ℕ) → IsQuiet m s t n → (k : ℕ) → k < n → m.due s (t + k) ≡ false
  none_due s t n h k less = subst (λ (x : U). m.due x (t + k) ≡ false) (still s t k (λ j lesser. h j (omega (arith, less, lesser)))) (h k less)

  -- the answer of `due`
  pub first_is : (s : U) (t d : ℕ) → t ≤ d → ((k : ℕ) → k < d → m.due s k ≡ false) → (d < MOST_CYCLES → m.due s d ≡ true) → IsFirstDue m s t (within_run d)
  first_is s t d le none event = by (nat_lt d MOST_CYCLES) refl
    where
      by : (b : Bool) → nat_lt d MOST_CYCLES ≡ b → IsFirstDue m s t (if b then Some d else None)
      by true soon =
          let less : d < MOST_CYCLES = grind (arith, nat_tests, soon) in
          let quiet : (k : ℕ) → k < d - t → m.due s (t + k) ≡ false = λ k below. none (t + k) (omega (arith, below, le)) in
          (le, less, rests s t (d - t) quiet, subst (λ (x : U). m.due x d ≡ true) (sym (stands s t (d - t) quiet)) (event less))
      by false late =
          let most : MOST_CYCLES ≤ d = grind (arith, nat_tests, late) in
          rests s t (MOST_CYCLES - t) (λ k below. none (t + k) (omega (arith, below, most)))

  -- what `skip` leaves
  pub skipped : (v s : At U) (to : ℕ) → v ≡ s → IsQuiet m s.unit s.cycle (to - s.cycle) → record v { cycle = to } ≡ record { unit = steps m s.unit s.cycle (to - s.cycle); cycle = to }
  skipped v s to same quiet =
      ap (λ (x : At U). record x { cycle = to }) same ∙ ap (λ (u : U). record { unit = u; cycle = to }) (sym (still s.unit s.cycle (to - s.cycle) quiet))

  -- v is what a struct shows of its fields, and s what the caller knows
  module _ (v s : At U) (same : v ≡ s) where
    -- over a quiet stretch an event of the unit stays ahead
    pub keeps_ahead : (event : U → Option ℕ) → ((u : U) (t : ℕ) → m.due u t ≡ false → comes (event u) t ≡ false) →
        (to : ℕ) → s.cycle ≤ to → IsQuiet m s.unit s.cycle (to - s.cycle) → IsAhead (event v.unit) v.cycle → IsAhead (event v.unit) to
    keeps_ahead event is to le quiet h =
        subst (λ (x : At U). IsAhead (event x.unit) to) (sym same)
        (still_ahead (event s.unit) s.cycle to le (subst (λ (x : At U). IsAhead (event x.unit) x.cycle) same h)
        (λ k less. is s.unit (s.cycle + k) (none_due s.unit s.cycle (to - s.cycle) quiet k less)))

    -- the answer of `due`, where d is the cycle of the first event
    pub first_at : (d : ℕ) (r : Option ℕ) → r ≡ within_run d → v.cycle ≤ d → ((k : ℕ) → k < d → m.due v.unit k ≡ false) →
        (d < MOST_CYCLES → m.due v.unit d ≡ true) → IsFirstDue m s.unit s.cycle r
    first_at d r is le none event =
        subst (λ (x : At U). IsFirstDue m x.unit x.cycle r) same
        (subst (λ (x : Option ℕ). IsFirstDue m v.unit v.cycle x) (sym is) (first_is v.unit v.cycle d le none event))
