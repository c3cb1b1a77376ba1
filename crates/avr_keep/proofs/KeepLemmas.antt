-- The first event is the end of a window or of a write, or a time-out.
use Rattle.std.proofs.Common.{◌≡◌, ◌∙◌, ℕ, ◌+◌, ◌-◌, ◌<◌, ◌≤◌, ◌⊎◌, inl, inr, [], Bool, true, false, Option, None, Some, refl, arith, sym, subst}
use Rattle.std.specs.Prelude.{◌&&◌, nat_lt, nat_le, min, max, if◌then◌else◌}
use Rattle.std.proofs.lemmas.Bool.{or_parts, or_from, or_left, or_right}
use Rattle.std.proofs.lemmas.Bool.Decides.{nat_tests}
use Rattle.sim_base.specs.declared.limits.TheConstants.{MOST_CYCLES}
use Rattle.avr_unit.specs.UnitMachine.{UnitMachine, At, IsQuiet, IsFirstDue}
use Rattle.avr_unit.specs.Coming.{comes, IsAhead, or_end, within_run}
use Rattle.avr_unit.specs.Late.{Behind}
use Rattle.avr_unit.proofs.StillLemmas.{still, stands, rests, keeps_ahead, before_it, at_it, ahead_of}
use Rattle.avr_keep.specs.declared.watchdog.Watchdog.{Watchdog}
use Rattle.avr_keep.specs.Watchdog.{runs, period, times_out, watchdog_due}
use Rattle.avr_keep.specs.Eeprom.{end_of}
use Rattle.avr_keep.specs.EepromState.{Suits}
use Rattle.avr_keep.specs.Keep.{Keep, keep}
use Rattle.avr_keep.specs.KeepLaws.{quiet}

pub stays : (u : Keep) (t : ℕ) → keep.due u t ≡ false → keep.step u t [] [] ≡ u
stays u t h = quiet u t h

-- what it shows where it lags behind is what it has
pub stays_behind : (s : At Keep) (t : ℕ) (u : Keep) → Behind keep s t u → u ≡ s.unit
stays_behind s t u h = h.state ∙ still keep stays s.unit s.cycle (t - s.cycle) h.quiet

-- the answer of `due`, of a unit that stays between its events, where none comes from here to there
first_from : {U : Type 0} (m : UnitMachine U) → ((s : U) (t : ℕ) → m.due s t ≡ false → m.step s t [] [] ≡ s) → (s : U) (t d : ℕ) → t ≤ d → ((k : ℕ) → t ≤ k → k < d → m.due s k ≡ false) →
    (d < MOST_CYCLES → m.due s d ≡ true) → IsFirstDue m s t (within_run d)
first_from m stays s t d le none event = by (nat_lt d MOST_CYCLES) refl
  where
    by : (b : Bool) → nat_lt d MOST_CYCLES ≡ b → IsFirstDue m s t (if b then Some d else None)
    by true soon =
        let less : d < MOST_CYCLES = grind (arith, nat_tests, soon) in
        let quiet : (k : ℕ) → k < d - t → m.due s (t + k) ≡ false = λ k below. none (t + k) (omega arith) (omega (arith, below, le)) in
        (le, less, rests m stays s t (d - t) quiet, subst (λ x. m.due x d ≡ true) (sym (stands m stays s t (d - t) quiet)) (event less))
    by false late =
        let most : MOST_CYCLES ≤ d = grind (arith, nat_tests, late) in
        rests m stays s t (MOST_CYCLES - t) (λ k below. none (t + k) (omega arith) (omega (arith, below, most)))

-- the cycle in whose step the time is out
abbrev pub time_out : Watchdog → ℕ
time_out w = if runs w then w.since + period w else MOST_CYCLES

not_out : (w : Watchdog) (k : ℕ) → k < time_out w → times_out w k ≡ false
not_out w k less = by (runs w) less
  where
    by : (b : Bool) → k < (if b then w.since + period w else MOST_CYCLES) → (b && nat_le (w.since + period w) k) ≡ false
    by true h = grind (arith, nat_tests, h)
    by false h = refl

is_out : (w : Watchdog) (d : ℕ) → time_out w ≤ d → d < MOST_CYCLES → times_out w d ≡ true
is_out w d le within = by (runs w) le
  where
    by : (b : Bool) → (if b then w.since + period w else MOST_CYCLES) ≤ d → (b && nat_le (w.since + period w) d) ≡ true
    by true h = grind (arith, nat_tests, h)
    by false h = absurd (omega (arith, h, within))

-- the first of all
abbrev pub first_of : Keep → ℕ → ℕ
first_of u t = min (min (min (or_end u.watchdog.window) (or_end u.eeprom.window)) (or_end (end_of u.eeprom.programming))) (max (time_out u.watchdog) t)

before_each : (a b c o t k : ℕ) → t ≤ k → k < min (min (min a b) c) (max o t) → (k < a) × (k < b) × (k < c) × (k < o)
before_each a b c o t k from less = (grind (arith, from, less), grind (arith, from, less), grind (arith, from, less), grind (arith, from, less))

one_of : (a b c x : ℕ) → (min (min (min a b) c) x ≡ a) ⊎ ((min (min (min a b) c) x ≡ b) ⊎ ((min (min (min a b) c) x ≡ c) ⊎ (min (min (min a b) c) x ≡ x)))
one_of a b c x = grind arith

none_before : (u : Keep) (t k : ℕ) → t ≤ k → k < first_of u t → keep.due u k ≡ false
none_before u t k from less =
    let h = before_each (or_end u.watchdog.window) (or_end u.eeprom.window) (or_end (end_of u.eeprom.programming)) (time_out u.watchdog) t k from less in
    or_from (watchdog_due u.watchdog k) _ (or_from (comes u.watchdog.window k) _ (before_it u.watchdog.window k h.0) (not_out u.watchdog k h.3))
    (or_from (comes u.eeprom.window k) _ (before_it u.eeprom.window k h.1) (before_it (end_of u.eeprom.programming) k h.2))

-- an event that is named by its cycle comes there
there : (o : Option ℕ) (d : ℕ) → d ≡ or_end o → d < MOST_CYCLES → comes o d ≡ true
there o d is less = subst (λ x. comes o x ≡ true) (sym is) (at_it o (subst (λ x. x < MOST_CYCLES) is less))

some_there : (u : Keep) (t d : ℕ) → d ≡ first_of u t → d < MOST_CYCLES → keep.due u d ≡ true
some_there u t d is less = elim (one_of (or_end u.watchdog.window) (or_end u.eeprom.window) (or_end (end_of u.eeprom.programming)) (max (time_out u.watchdog) t)) [
  | inl a ↦ or_left _ _ (or_left _ _ (there u.watchdog.window d (is ∙ a) less))
  | inr (inl b) ↦ or_right _ _ (or_left _ _ (there u.eeprom.window d (is ∙ b) less))
  | inr (inr (inl c)) ↦ or_right _ _ (or_right _ _ (there (end_of u.eeprom.programming) d (is ∙ c) less))
  | inr (inr (inr o)) ↦
      let e : d ≡ max (time_out u.watchdog) t = is ∙ o in
      let late : time_out u.watchdog ≤ d = grind (arith, e) in
      or_left _ _ (or_right _ _ (is_out u.watchdog d late less))
]

-- v is what the struct shows of its fields, and s what the caller knows
module _ (v s : At Keep) (same : v ≡ s) where
  -- a quiet stretch ends no later than a window or a write
  pub skip_opens : (to : ℕ) → s.cycle ≤ to → IsQuiet keep s.unit s.cycle (to - s.cycle) → IsAhead v.unit.watchdog.window v.cycle → IsAhead v.unit.watchdog.window to
  skip_opens = keeps_ahead keep stays v s same (λ u. u.watchdog.window) (λ u t h. (or_parts _ _ (or_parts _ _ h).0).0)

  pub skip_suits : (to : ℕ) → s.cycle ≤ to → IsQuiet keep s.unit s.cycle (to - s.cycle) → Suits v.unit.eeprom v.cycle → Suits v.unit.eeprom to
  skip_suits to le quiet h = record {
    address = h.address;
    mode = h.mode;
    within = h.within;
    opens = keeps_ahead keep stays v s same (λ u. u.eeprom.window) (λ u t h. (or_parts _ _ (or_parts _ _ h).1).0) to le quiet h.opens;
    later = keeps_ahead keep stays v s same (λ u. end_of u.eeprom.programming) (λ u t h. (or_parts _ _ (or_parts _ _ h).1).1) to le quiet h.later;
  }

  -- the answer of `due`
  pub first_by : (d : ℕ) (r : Option ℕ) → r ≡ within_run d → d ≡ first_of v.unit v.cycle → v.cycle ≤ MOST_CYCLES → IsAhead v.unit.watchdog.window v.cycle → Suits v.unit.eeprom v.cycle →
      IsFirstDue keep s.unit s.cycle r
  first_by d r is is_d end opens suits =
      let a = ahead_of v.unit.watchdog.window v.cycle opens end in
      let b = ahead_of v.unit.eeprom.window v.cycle suits.opens end in
      let c = ahead_of (end_of v.unit.eeprom.programming) v.cycle suits.later end in
      subst (λ (x : At Keep). IsFirstDue keep x.unit x.cycle r) same (subst (λ (x : Option ℕ). IsFirstDue keep v.unit v.cycle x) (sym is)
      (first_from keep stays v.unit v.cycle d (subst (λ x. v.cycle ≤ x) (sym is_d) (least _ _ _ (time_out v.unit.watchdog) a b c)) (λ k from less. none_before v.unit v.cycle k from (subst (λ x. k < x) is_d less)) (some_there v.unit v.cycle d is_d)))
    where
      least : (a b c o : ℕ) → v.cycle ≤ a → v.cycle ≤ b → v.cycle ≤ c → v.cycle ≤ min (min (min a b) c) (max o v.cycle)
      least a b c o p q r = grind (arith, p, q, r)
