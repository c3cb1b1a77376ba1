-- When a chip is due.
use Rattle.std.proofs.Common.{◌≡◌, ◌≢◌, ◌<◌, ◌≤◌, ℕ, ◌+◌, ◌-◌, ◌&&◌, ◌||◌, List, [], ◌∷◌, Bool, true, false, Option, None, Some, refl, sym, ap, subst, ◌∙◌, arith}
use Rattle.std.specs.Prelude.{◌==◌, if◌then◌else◌}
use Rattle.std.proofs.lemmas.Bool.Decides.{eqb_tells}
use Rattle.std.proofs.lemmas.Bool.{or_from, or_right, and_right}
use Rattle.sim_base.specs.declared.limits.TheConstants.{MOST_CYCLES}
use Rattle.part_law.specs.Machine.{IsFirstDue}
use Rattle.part_law.proofs.MachineLemmas.{quiet_still, first_still}
use Rattle.chip_host.specs.declared.timer.Timer.{Timer}
use Rattle.chip_host.specs.Chip.{Chip, chip, is_live, is_at, any_due}
use Rattle.chip_host.specs.ChipLaws.{chip_still}
use Rattle.chip_host.specs.NextDue.{next_due}
use Rattle.chip_host.specs.FirstDue.{first_due}
use Rattle.chip_engines.specs.Engine.{any_engine_due}
use Rattle.chip_engines.specs.FirstDue.{due_from, earlier, first_engine}
use Rattle.chip_engines.proofs.FirstLemmas.{First, first_or, due_first, engine_first}

eq_no : (u v : ℕ) → u ≢ v → (u == v) ≡ false
eq_no u v h = grind (arith, eqb_tells u v)

at_first : (t : ℕ) (d : Option ℕ) → First t (λ v. is_at v d) (due_from t d)
at_first t None = due_first t None
at_first t (Some u) = due_first t (Some u)

first_is : (t : ℕ) (xs : List Timer) → First t (λ v. any_due v xs) (first_due t xs)
first_is t [] = λ v l e. refl
first_is t (x ∷ xs) = first_or t (λ v. is_at v x.due) (λ v. any_due v xs) (due_from t x.due) (first_due t xs) (at_first t x.due) (first_is t xs)

-- what is due of a live chip
abbrev its_due : Chip → ℕ → Bool
its_due s v = any_due v s.inventory.timers || any_engine_due v s.inventory.engines

abbrev its_first : Chip → ℕ → Option ℕ
its_first s t = earlier (first_due t s.inventory.timers) (first_engine t s.inventory.engines)

all_first : (s : Chip) (t : ℕ) → First t (its_due s) (its_first s t)
all_first s t =
    first_or t (λ v. any_due v s.inventory.timers) (λ v. any_engine_due v s.inventory.engines) (first_due t s.inventory.timers) (first_engine t s.inventory.engines)
    (first_is t s.inventory.timers) (engine_first t s.inventory.engines)

later_due : (s : Chip) (v : ℕ) → v ≢ 0 → (is_live s && its_due s v) ≡ false → chip.due s v ≡ false
later_due s v h e = or_from (v == 0) (is_live s && its_due s v) (eq_no v 0 h) e

by_first : (s : Chip) (t : ℕ) (d : Option ℕ) → t ≢ 0 → t ≤ MOST_CYCLES → is_live s ≡ true → First t (its_due s) d → IsFirstDue chip s t d
by_first s t None some end live f =
    quiet_still chip (chip_still) s t (MOST_CYCLES - t)
    (λ k (h : k < MOST_CYCLES - t). later_due s (t + k) (λ e. some (omega (arith, e))) (and_right (is_live s) (its_due s (t + k)) (f (t + k) (omega arith) (omega arith))))
by_first s t (Some u) some end live f =
    let due : (is_live s && its_due s u) ≡ true = ap (λ (b : Bool). b && its_due s u) live ∙ f.2 in
    first_still chip (chip_still) s t u f.0 f.1
    (λ k (h : k < u - t). later_due s (t + k) (λ e. some (omega (arith, e))) (and_right (is_live s) (its_due s (t + k)) (f.3 (t + k) (omega arith) (omega (arith, f.0)))))
    (or_right (u == 0) (is_live s && its_due s u) due)

-- the first due cycle of a live chip behind cycle 0, of a dead one, and of any at cycle 0
pub live_due : (s : Chip) (t : ℕ) → t ≢ 0 → t ≤ MOST_CYCLES → is_live s ≡ true → IsFirstDue chip s t (its_first s t)
live_due s t some end live = by_first s t (its_first s t) some end live (all_first s t)

pub dead_due : (s : Chip) (t : ℕ) → t ≢ 0 → is_live s ≡ false → IsFirstDue chip s t None
dead_due s t some dead =
    quiet_still chip (chip_still) s t (MOST_CYCLES - t) (λ k (h : k < MOST_CYCLES - t). later_due s (t + k) (λ e. some (omega (arith, e))) (ap (λ (b : Bool). b && its_due s (t + k)) dead))

pub start_due : (s : Chip) (t : ℕ) → t ≡ 0 → IsFirstDue chip s t (Some 0)
start_due s t e =
    first_still chip (chip_still) s t 0 (omega (arith, e)) (omega arith) (λ k (h : k < 0 - t). absurd (omega arith)) refl

eq_zero : (t : ℕ) → (t == 0) ≡ true → t ≡ 0
eq_zero t e = grind (arith, eqb_tells t 0)

not_zero : (t : ℕ) → (t == 0) ≡ false → t ≢ 0
not_zero t e = grind (arith, eqb_tells t 0)

choose_due : (b c : Bool) (s : Chip) (t : ℕ) → (t == 0) ≡ b → is_live s ≡ c → t ≤ MOST_CYCLES → IsFirstDue chip s t (if b then Some 0 else if c then its_first s t else None)
choose_due true c s t e live end = start_due s t (eq_zero t e)
choose_due false true s t e live end = live_due s t (not_zero t e) end live
choose_due false false s t e live end = dead_due s t (not_zero t e) live

-- the cycle that the code answers
pub next_is : (s : Chip) (t : ℕ) (d : Option ℕ) → d ≡ next_due s t → t ≤ MOST_CYCLES → IsFirstDue chip s t d
next_is s t d e end = subst (λ (x : Option ℕ). IsFirstDue chip s t x) (sym e) (choose_due (t == 0) (is_live s) s t refl refl end)
