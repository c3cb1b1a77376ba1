-- A unit whose cycles move a counter and nothing else.
use Rattle.std.proofs.Common.{◌≡◌, ℕ, zero, suc, ◌+◌, ◌-◌, ◌∙◌, [], List, Bool, true, false, not, ◌&&◌, ◌||◌, Option, None, Some, ap, sym, subst, refl, arith}
use Rattle.std.specs.Prelude.{◌==◌, if◌then◌else◌}
use Rattle.std.proofs.lemmas.Bool.Decides.{nat_tests}
use Rattle.sim_base.specs.declared.signal.Level.{Level}
use Rattle.sim_base.specs.declared.limits.TheConstants.{MOST_CYCLES}
use Rattle.part_law.specs.declared.span.Span.{Span}
use Rattle.part_law.specs.Spans.{IsIn, no_pins}
use Rattle.avr_unit.specs.Placed.{apart_hull}
use Rattle.avr_unit.specs.UnitMachine.{UnitMachine, At, steps, IsQuiet, IsFirstDue}
use Rattle.avr_unit.specs.Pad.{untouched, valued}
use Rattle.avr_unit.specs.declared.pad.Pad.{Pad}
use Rattle.avr_timer.specs.declared.channel.Channel.{Channel}
use Rattle.avr_timer.specs.declared.counter.Counter.{Counter}
use Rattle.avr_timer.specs.declared.mode.Mode.{Mode}
use Rattle.avr_timer.specs.declared.timing.Timing.{Timing}
use Rattle.avr_timer.specs.Timing.{counter_step, counter_due, counter_steps, IsStill, IsNext}
use Rattle.avr_timer.specs.declared.mode.Kind.{Kind}
use Rattle.avr_timer.specs.declared.mode.Com.{Com}
use Rattle.avr_timer.specs.Outputs.{has_pin, compare_pad, compare_pads, turned_pin, turned_pins}
use Rattle.avr_timer.specs.Flags.{requests_from, entered}
use Rattle.avr_timer.proofs.TimingLemmas.{Keeps}

pub record TimerOf {U : Type 0} (m : UnitMachine U) : Type 0 where
  pub get : U → Counter
  pub put : U → Counter → U
  pub timing : U → Timing
  pub step : (u : U) (t : ℕ) (b l : List Level) → m.step u t b l ≡ put u (counter_step (timing u) (get u) t)
  pub due : (u : U) (t : ℕ) → m.due u t ≡ counter_due (timing u) (get u) t
  pub get_put : (u : U) (x : Counter) → get (put u x) ≡ x
  pub put_get : (u : U) → put u (get u) ≡ u
  pub put_put : (u : U) (x y : Counter) → put (put u x) y ≡ put u y
  pub timing_put : (u : U) (x : Counter) → timing (put u x) ≡ timing u

module _ {U : Type 0} (m : UnitMachine U) (is : TimerOf m) where
  -- the counter n cycles after cycle t
  abbrev pub ran : U → ℕ → ℕ → Counter
  ran u t n = counter_steps (is.timing u) (is.get u) t n

  pub steps_are : (u : U) (t n : ℕ) → steps m u t n ≡ is.put u (ran u t n)
  unfolding steps counter_steps
  steps_are u t zero = sym (is.put_get u)
  steps_are u t (suc n) =
      let x : Counter = ran u t n in
      ap (λ (v : U). m.step v (t + n) [] []) (steps_are u t n)
      ∙ is.step (is.put u x) (t + n) [] []
      ∙ ap (λ (k : Timing). is.put (is.put u x) (counter_step k (is.get (is.put u x)) (t + n))) (is.timing_put u x)
      ∙ ap (λ (y : Counter). is.put (is.put u x) (counter_step (is.timing u) y (t + n))) (is.get_put u x)
      ∙ is.put_put u x (counter_step (is.timing u) x (t + n))

  -- an event of the unit is one of the counter
  pub due_is : (u : U) (t n e : ℕ) → m.due (steps m u t n) e ≡ counter_due (is.timing u) (ran u t n) e
  due_is u t n e =
      ap (λ (v : U). m.due v e) (steps_are u t n)
      ∙ is.due (is.put u (ran u t n)) e
      ∙ ap (λ (k : Timing). counter_due k (is.get (is.put u (ran u t n))) e) (is.timing_put u (ran u t n))
      ∙ ap (λ (y : Counter). counter_due (is.timing u) y e) (is.get_put u (ran u t n))

  pub still_is : (u : U) (t n : ℕ) → IsQuiet m u t n → IsStill (is.timing u) (is.get u) t n
  still_is u t n quiet j less = sym (due_is u t j (t + j)) ∙ quiet j less

  quiet_is : (u : U) (t n : ℕ) → IsStill (is.timing u) (is.get u) t n → IsQuiet m u t n
  quiet_is u t n still j less = due_is u t j (t + j) ∙ still j less

  pub first_is : (u : U) (t : ℕ) (r : Option ℕ) → IsNext (is.timing u) (is.get u) t r → IsFirstDue m u t r
  first_is u t None h = quiet_is u t (MOST_CYCLES - t) h
  first_is u t (Some d) h = (h.0, h.1, quiet_is u t (d - t) h.2, due_is u t (d - t) d ∙ h.3)

same_number : (p q : ℕ) → (p == q) ≡ true → p ≡ q
same_number p q h = grind (arith, nat_tests, h)

-- Two counters with the same latches ask the same of a pin.
pub record Latches (x c : Counter) : Type 0 where
  pub a : x.a.latch ≡ c.a.latch
  pub b : x.b.latch ≡ c.b.latch

pub pads_by : (oca ocb : ℕ) (m : Mode) (x c : Counter) (pin : ℕ) → Latches x c → compare_pads oca ocb m x pin ≡ compare_pads oca ocb m c pin
pads_by oca ocb m x c pin h =
    ap (λ (l : Bool). compare_pads oca ocb m (record x { a = record (x.a) { latch = l } }) pin) h.a
    ∙ ap (λ (l : Bool). compare_pads oca ocb m (record c { b = record (c.b) { latch = l } }) pin) h.b

-- a channel's pin that is not told is asked the same
kept_pin : (k : Kind) (how : Com) (before latch : Bool) (pin : ℕ) → ¬ IsIn (turned_pin k how before latch pin) pin → compare_pad k how latch ≡ compare_pad k how before
kept_pin k how before latch pin out = by (has_pin k how) before latch out
  where
    by : (has b l : Bool) → ¬ IsIn (if has && ((b && not l) || (not b && l)) then record { from = pin; to = pin + 1 } else no_pins) pin →
        (if has then valued l else untouched) ≡ (if has then valued b else untouched)
    by true true true out = refl
    by true true false out = absurd (out (omega arith, omega arith))
    by true false true out = absurd (out (omega arith, omega arith))
    by true false false out = refl
    by false b l out = refl

-- so are pins that are none of those whose latches were others before
pub not_turned : (oca ocb : ℕ) (m : Mode) (x c : Counter) (p : ℕ) → ¬ IsIn (turned_pins oca ocb m c.a.latch c.b.latch x) p → compare_pads oca ocb m x p ≡ compare_pads oca ocb m c p
not_turned oca ocb m x c p out = by (p == oca) (p == ocb) refl refl
  where
    first : Span
    first = turned_pin m.kind m.com_a c.a.latch x.a.latch oca

    second : Span
    second = turned_pin m.kind m.com_b c.b.latch x.b.latch ocb

    by : (s t : Bool) → (p == oca) ≡ s → (p == ocb) ≡ t →
        (if s then compare_pad m.kind m.com_a x.a.latch else if t then compare_pad m.kind m.com_b x.b.latch else untouched)
        ≡ (if s then compare_pad m.kind m.com_a c.a.latch else if t then compare_pad m.kind m.com_b c.b.latch else untouched)
    by true t e f = kept_pin m.kind m.com_a c.a.latch x.a.latch oca (subst (λ (q : ℕ). ¬ IsIn first q) (same_number p oca e) (apart_hull first second p out).0)
    by false true e f = kept_pin m.kind m.com_b c.b.latch x.b.latch ocb (subst (λ (q : ℕ). ¬ IsIn second q) (same_number p ocb f) (apart_hull first second p out).1)
    by false false e f = refl

pub keeps_latches : (s x : Counter) → Keeps s x → Latches x s
keeps_latches s x h = record { a = ap (λ (ch : Channel). ch.latch) h.a; b = ap (λ (ch : Channel). ch.latch) h.b }

pub latches_if : (t : Bool) (x y c : Counter) → Latches x c → Latches y c → Latches (if t then x else y) c
latches_if true x y c h k = h
latches_if false x y c h k = k

pub entered_latches : (v : ℕ) (c : Counter) (x : ℕ) → Latches (entered v c x) c
entered_latches v c x =
    latches_if (x == v) (record c { a = record (c.a) { flag = false } }) _ c (record { a = refl; b = refl })
    (latches_if (x == v + 1) (record c { b = record (c.b) { flag = false } }) _ c (record { a = refl; b = refl })
    (latches_if (x == v + 2) (record c { tov = false }) c c (record { a = refl; b = refl }) (record { a = refl; b = refl })))

pub requests_by : (v timsk : ℕ) (s x : Counter) → Keeps s x → requests_from v timsk x ≡ requests_from v timsk s
requests_by v timsk s x h =
    ap (λ (a : Channel). requests_from v timsk (record x { a = a })) h.a
    ∙ ap (λ (b : Channel). requests_from v timsk (record x { a = s.a; b = b })) h.b
    ∙ ap (λ (o : Bool). requests_from v timsk (record s { tov = o })) h.tov

-- The same, where a timer's fields show v and its callers know s.
module _ {U : Type 0} (m : UnitMachine U) (is : TimerOf m) where
  pub still_by : (v s : At U) (k : Timing) (to : ℕ) → v ≡ s → k ≡ is.timing s.unit → IsQuiet m s.unit s.cycle (to - s.cycle) → IsStill k (is.get v.unit) v.cycle (to - v.cycle)
  still_by v s k to same time quiet =
      subst (λ (x : At U). IsStill k (is.get x.unit) x.cycle (to - x.cycle)) (sym same)
      (subst (λ (x : Timing). IsStill x (is.get s.unit) s.cycle (to - s.cycle)) (sym time) (still_is m is s.unit s.cycle (to - s.cycle) quiet))

  abbrev pub at : U → ℕ → At U
  at u t = record { unit = u; cycle = t }

  pub goes_by : (v s : At U) (k : Timing) (to : ℕ) (c : Counter) → v ≡ s → k ≡ is.timing s.unit → c ≡ counter_steps k (is.get v.unit) v.cycle (to - v.cycle) →
      at (is.put v.unit c) to ≡ at (steps m s.unit s.cycle (to - s.cycle)) to
  goes_by v s k to c same time done =
      let e : c ≡ ran m is s.unit s.cycle (to - s.cycle) =
      done ∙ ap (λ (x : Timing). counter_steps x (is.get v.unit) v.cycle (to - v.cycle)) time
      ∙ ap (λ (x : At U). counter_steps (is.timing s.unit) (is.get x.unit) x.cycle (to - x.cycle)) same in
      let f : is.put v.unit c ≡ steps m s.unit s.cycle (to - s.cycle) =
      ap (λ (x : At U). is.put x.unit c) same ∙ ap (is.put s.unit) e ∙ sym (steps_are m is s.unit s.cycle (to - s.cycle)) in
      ap (λ (u : U). at u to) f

  pub first_by : (v s : At U) (k : Timing) (r : Option ℕ) → v ≡ s → k ≡ is.timing s.unit → IsNext k (is.get v.unit) v.cycle r → IsFirstDue m s.unit s.cycle r
  first_by v s k r same time next =
      first_is m is s.unit s.cycle r
      (subst (λ (x : Timing). IsNext x (is.get s.unit) s.cycle r) time
      (subst (λ (x : At U). IsNext k (is.get x.unit) x.cycle r) same next))
