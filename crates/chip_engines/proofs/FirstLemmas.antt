-- The first cycle from one on in which something is due.
use Rattle.std.proofs.Common.{◌≡◌, ◌≢◌, ◌<◌, ◌≤◌, ◌⊎◌, inl, inr, ℕ, suc, ◌&&◌, ◌||◌, List, [], ◌∷◌, Bool, true, false, Option, None, Some, refl, subst, arith}
use Rattle.std.specs.Prelude.{◌==◌, nat_le, nat_lt, min, if◌then◌else◌}
use Rattle.std.proofs.lemmas.Bool.Decides.{leb_tells, eqb_tells}
use Rattle.std.proofs.lemmas.Bool.{or_from, or_left, or_right}
use Rattle.sim_base.specs.declared.limits.TheConstants.{MOST_CYCLES}
use Rattle.avr_unit.specs.Coming.{comes}
use Rattle.slave_serial.specs.Reception.{next_sample}
use Rattle.slave_serial.specs.Sending.{bit_end}
use Rattle.slave_serial.specs.Spi.{is_opening, next_turn}
use Rattle.chip_engines.specs.declared.serial.Serial.{Serial}
use Rattle.chip_engines.specs.declared.serial.Serial.TheVariants as serials
use Rattle.chip_engines.specs.declared.engine.Engine.{Engine}
use Rattle.chip_engines.specs.Serial.{serial_due}
use Rattle.chip_engines.specs.Engine.{engine_due, any_engine_due}
use Rattle.chip_engines.specs.FirstDue.{due_from, earlier, first_serial, first_at, first_engine}

-- the first cycle from t on of which a test holds
abbrev pub First : ℕ → (ℕ → Bool) → Option ℕ → Type 0
First t f None = (v : ℕ) → t ≤ v → v < MOST_CYCLES → f v ≡ false
First t f (Some u) = (t ≤ u) × (u < MOST_CYCLES) × (f u ≡ true) × ((v : ℕ) → t ≤ v → v < u → f v ≡ false)

le_or : (a b : ℕ) → (a ≤ b) ⊎ (b < a)
le_or a b = grind arith

module _ (t : ℕ) (f g : ℕ → Bool) where
  pub first_or : (a b : Option ℕ) → First t f a → First t g b → First t (λ v. f v || g v) (earlier a b)
  first_or None None p q = λ v l e. or_from (f v) (g v) (p v l e) (q v l e)
  first_or (Some a) None p q = (p.0, p.1, or_left (f a) (g a) p.2, λ v l (h : v < a). or_from (f v) (g v) (p.3 v l h) (q v l (omega (arith, p.1))))
  first_or None (Some b) p q = (q.0, q.1, or_right (f b) (g b) q.2, λ v l (h : v < b). or_from (f v) (g v) (p v l (omega (arith, q.1))) (q.3 v l h))
  first_or (Some a) (Some b) p q =
      elim (le_or a b) [
        | inl h ↦
            let m : a ≡ min a b = omega arith in
            let w : First t (λ v. f v || g v) (Some a) = (p.0, p.1, or_left (f a) (g a) p.2, λ v l (k : v < a). or_from (f v) (g v) (p.3 v l k) (q.3 v l (omega arith))) in
            subst (λ (n : ℕ). First t (λ v. f v || g v) (Some n)) m w
        | inr h ↦
            let m : b ≡ min a b = omega arith in
            let w : First t (λ v. f v || g v) (Some b) = (q.0, q.1, or_right (f b) (g b) q.2, λ v l (k : v < b). or_from (f v) (g v) (p.3 v l (omega arith)) (q.3 v l k)) in
            subst (λ (n : ℕ). First t (λ v. f v || g v) (Some n)) m w
      ]

eq_no : (u v : ℕ) → u ≢ v → (u == v) ≡ false
eq_no u v h = grind (arith, eqb_tells u v)

eq_yes : (u : ℕ) → (u == u) ≡ true
eq_yes u = grind (arith, eqb_tells u u)

chosen : (t u : ℕ) (a b : Bool) → (a ≡ true → t ≤ u) → (a ≡ false → u < t) → (b ≡ true → u < MOST_CYCLES) → (b ≡ false → MOST_CYCLES ≤ u) → First t (λ v. u == v) (if a && b then Some u else None)
chosen t u true true p q r s = (p refl, r refl, eq_yes u, λ v l (h : v < u). eq_no u v (λ e. absurd (omega (arith, e))))
chosen t u true false p q r s = λ v l e. eq_no u v (λ i. absurd (omega (arith, i, s refl)))
chosen t u false b p q r s = λ v l e. eq_no u v (λ i. absurd (omega (arith, i, q refl)))

le_true : (a b : ℕ) → nat_le a b ≡ true → a ≤ b
le_true a b e = grind (arith, leb_tells a b)

le_false : (a b : ℕ) → nat_le a b ≡ false → b < a
le_false a b e = grind (arith, leb_tells a b)

lt_true : (a b : ℕ) → nat_lt a b ≡ true → a < b
lt_true a b e = omega (arith, le_true (suc a) b e)

lt_false : (a b : ℕ) → nat_lt a b ≡ false → b ≤ a
lt_false a b e = omega (arith, le_false (suc a) b e)

pub due_first : (t : ℕ) (d : Option ℕ) → First t (comes d) (due_from t d)
due_first t None = λ v l e. refl
due_first t (Some u) = chosen t u (nat_le t u) (nat_lt u MOST_CYCLES) (le_true t u) (le_false t u) (lt_true u MOST_CYCLES) (lt_false u MOST_CYCLES)

-- what always holds, holds first at once
at_once : (t : ℕ) (f : ℕ → Bool) → ((v : ℕ) → f v ≡ true) → (a b : Bool) → nat_le t t ≡ a → nat_lt t MOST_CYCLES ≡ b → First t f (if a && b then Some t else None)
at_once t f h true true p q = (le_true t t p, lt_true t MOST_CYCLES q, h t, λ v l (k : v < t). absurd (omega (arith, l, k)))
at_once t f h true false p q = λ v l (k : v < MOST_CYCLES). absurd (omega (arith, l, k, lt_false t MOST_CYCLES q))
at_once t f h false b p q = absurd (omega (arith, le_false t t p))

opening_or : (t : ℕ) (a : Bool) (d : Option ℕ) → First t (λ v. a || comes d v) (if a then due_from t (Some t) else due_from t d)
opening_or t true d = at_once t (λ v. true) (λ v. refl) (nat_le t t) (nat_lt t MOST_CYCLES) refl refl
opening_or t false d = due_first t d

pub serial_first : (t : ℕ) (s : Serial) → First t (serial_due s) (first_serial t s)
serial_first t (serials.Uart u) =
    first_or t (comes (bit_end u.sending)) (comes (next_sample u.reception)) (due_from t (bit_end u.sending)) (due_from t (next_sample u.reception))
    (due_first t (bit_end u.sending)) (due_first t (next_sample u.reception))
serial_first t (serials.Spi s) = opening_or t (is_opening s.transaction) (next_turn s.transaction)
serial_first t (serials.I2c s) = λ v l e. refl

at_first : (t : ℕ) (o : Option Engine) → First t (λ v. engine_due v o) (first_at t o)
at_first t None = λ v l e. refl
at_first t (Some e) = serial_first t e.serial

pub engine_first : (t : ℕ) (os : List (Option Engine)) → First t (λ v. any_engine_due v os) (first_engine t os)
engine_first t [] = λ v l e. refl
engine_first t (o ∷ os) = first_or t (λ v. engine_due v o) (λ v. any_engine_due v os) (first_at t o) (first_engine t os) (at_first t o) (engine_first t os)
