-- Places without an engine add nothing, and an engine that drives the same stands in for another.
use Rattle.std.proofs.Common.{◌≡◌, ◌≢◌, ◌<◌, ◌≤◌, ◌+◌, ◌-◌, ◌⊎◌, inl, inr, ℕ, zero, suc, List, [], ◌∷◌, take, drop, Option, None, Some, refl, ap, sym, ◌∙◌, arith}
use Rattle.std.specs.Prelude.{slice_get, slice_set}
use Rattle.sim_base.specs.declared.signal.Drive.{Drive}
use Rattle.sim_base.specs.declared.signal.Level.{Level}
use Rattle.chip_engines.specs.declared.engine.Engine.{Engine}
use Rattle.chip_engines.specs.declared.engine.Turn.{Turn}
use Rattle.chip_engines.specs.Engine.{HasNone, place_drives, drives_at, or_next, driven}
use Rattle.chip_engines.specs.FirstDue.{earlier, first_at, first_engine}
use Rattle.chip_engines.specs.Turned.{HasTurnedAt}

-- the last place
pub earlier_none : (a : Option ℕ) → earlier a None ≡ a
earlier_none None = refl
earlier_none (Some n) = refl

pub or_next_none : (d : Option Drive) → or_next d None ≡ d
or_next_none None = refl
or_next_none (Some d) = refl

-- what is found place by place, and nothing at a place without an engine
module _ {X : Type 0} (f : List (Option Engine) → X) (skips : (os : List (Option Engine)) → f (None ∷ os) ≡ f os) (goes : (o : Option Engine) (os ps : List (Option Engine)) → f os ≡ f ps → f (o ∷ os) ≡ f (o ∷ ps)) where
  before : (os : List (Option Engine)) (n : ℕ) → ((k : ℕ) → n ≤ k → HasNone os k) → f (take n os) ≡ f os
  before [] zero none = refl
  before [] (suc n) none = refl
  before (None ∷ os) zero none = before os zero (λ k l. none (suc k) (omega arith)) ∙ sym (skips os)
  before (Some e ∷ os) zero none = absurd (none 0 (omega arith) e refl)
  before (o ∷ os) (suc n) none = goes o (take n os) os (before os n (λ k (l : n ≤ k). none (suc k) (omega (arith, l))))

  between : (os : List (Option Engine)) (from n : ℕ) → ((k : ℕ) → k < from → HasNone os k) → ((k : ℕ) → from + n ≤ k → HasNone os k) → f (take n (drop from os)) ≡ f os
  between os zero n first none = before os n (λ k (l : n ≤ k). none k (omega (arith, l)))
  between [] (suc from) zero first none = refl
  between [] (suc from) (suc n) first none = refl
  between (None ∷ os) (suc from) n first none =
      between os from n (λ k (l : k < from). first (suc k) (omega (arith, l))) (λ k (l : from + n ≤ k). none (suc k) (omega (arith, l))) ∙ sym (skips os)
  between (Some e ∷ os) (suc from) n first none = absurd (first 0 (omega arith) e refl)

module _ (os : List (Option Engine)) (from to : ℕ) (order : from ≤ to) (first : (k : ℕ) → k < from → HasNone os k) (last : (k : ℕ) → to ≤ k → HasNone os k) where
  behind : (k : ℕ) → from + (to - from) ≤ k → HasNone os k
  behind k l = last k (omega (arith, order, l))

  -- what drives a pin stands between the first and the last engine
  pub driven_between : (pin : ℕ) → driven pin (take (to - from) (drop from os)) ≡ driven pin os
  driven_between pin = between (driven pin) (λ os. refl) (λ o os ps e. ap (or_next (place_drives pin o)) e) os from (to - from) first behind

  pub first_between : (t : ℕ) → first_engine t (take (to - from) (drop from os)) ≡ first_engine t os
  first_between t = between (first_engine t) (λ os. refl) (λ o os ps e. ap (earlier (first_at t o)) e) os from (to - from) first behind

-- an engine in the place of one that drives the same
pub driven_same : (pin : ℕ) (os : List (Option Engine)) (k : ℕ) (e g : Engine) → slice_get os k ≡ Some (Some e) → drives_at pin g ≡ drives_at pin e → driven pin (slice_set os k (Some g)) ≡ driven pin os
driven_same pin [] k e g at same = absurd cc
driven_same pin (o ∷ os) zero e g at same =
    let here : o ≡ Some e = cc in
    ap (λ (d : Option Drive). or_next d (driven pin os)) (same ∙ ap (place_drives pin) (sym here))
driven_same pin (o ∷ os) (suc k) e g at same = ap (or_next (place_drives pin o)) (driven_same pin os k e g at same)

-- ---- where no engine stands

-- what is put at a place stands at no other
pub none_set : {X : Type 0} (os : List (Option X)) (k j : ℕ) (o : Option X) → k ≢ j → HasNone os k → HasNone (slice_set os j o) k
none_set [] k j o other none e = none e
none_set (p ∷ ps) zero zero o other none e = absurd (other refl)
none_set (p ∷ ps) (suc k) zero o other none e = none e
none_set (p ∷ ps) zero (suc j) o other none e = none e
none_set (p ∷ ps) (suc k) (suc j) o other none e = none_set ps k j o (λ h. other (ap (λ (n : ℕ). suc n) h)) none e

-- where nothing stands, nothing does still, unless it is put there
pub none_kept : {X : Type 0} (os : List (Option X)) (j k : ℕ) (p : Option X) → (HasNone os j → p ≡ None) → HasNone os k → HasNone (slice_set os j p) k
none_kept [] j k p empty none e = none e
none_kept (q ∷ qs) zero zero p empty none e = λ h. absurd (let n = empty none in cc)
none_kept (q ∷ qs) zero (suc k) p empty none e = none e
none_kept (q ∷ qs) (suc j) zero p empty none e = none e
none_kept (q ∷ qs) (suc j) (suc k) p empty none e = none_kept qs j k p empty none e

before_or : (k n : ℕ) → (n ≤ k) ⊎ (k < n)
before_or k n = grind arith

-- an engine joins those that stand from `first` to below `end`
module _ (os : List (Option Engine)) (first end : ℕ) (before : (k : ℕ) → k < first → HasNone os k) (behind : (k : ℕ) → end ≤ k → HasNone os k) (place : ℕ) (o : Option Engine) where
  pub none_before : (from : ℕ) → from ≤ place → ((k : ℕ) → k < from → first ≤ k → end ≤ k) → (k : ℕ) → k < from → HasNone (slice_set os place o) k
  none_before from l far k h =
      none_set os k place o (λ e. absurd (omega (arith, l, h, e)))
      (elim (before_or k first) [
        | inl g ↦ behind k (far k h g)
        | inr g ↦ before k g
      ])

  pub none_behind : (to : ℕ) → end ≤ to → place + 1 ≤ to → (k : ℕ) → to ≤ k → HasNone (slice_set os place o) k
  none_behind to l h k g = none_set os k place o (λ e. absurd (omega (arith, h, g, e))) (behind k (omega (arith, l, g)))

-- an empty place is empty behind its turn
pub none_turned : (os : List (Option Engine)) (k t : ℕ) (before now : List Level) (o p : Option Engine) (r : Option Turn) → slice_get os k ≡ Some o → HasTurnedAt t before now o p r → HasNone os k → p ≡ None
none_turned os k t before now o p None at turned none = turned.1
none_turned os k t before now o p (Some turn) at turned none = absurd (none turned.0 (at ∙ ap (λ (x : Option Engine). Some x) turned.1))
