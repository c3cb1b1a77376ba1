-- A conversion of the ADC that was started, and each one after it in free running mode.
use Rattle.std.proofs.Common.{◌≡◌, ℕ, zero, suc, ◌+◌, ◌-◌, ◌*◌, ◌%◌, ◌<◌, ◌≤◌, ◌∙◌, List, Bool, true, false, Option, None, Some, refl, ap, sym, subst, arith}
use Rattle.std.specs.Prelude.{◌==◌, ◌&&◌, ◌||◌, not, if◌then◌else◌, is_some}
use Rattle.std.proofs.lemmas.Bool.{and_left, and_from, or_from, not_from_true, cond-true, cond-false, cond_both, eq-eqb, ne_eqb}
use Rattle.sim_base.specs.declared.signal.Level.{Level}
use Rattle.avr_unit.specs.Bits.{is_set, with_bit}
use Rattle.avr_unit.specs.UnitMachine.{at_register}
use Rattle.avr_adc.specs.declared.adc.Conversion.{Conversion}
use Rattle.avr_adc.specs.declared.registers.Register.{Register}
use Rattle.avr_adc.specs.declared.registers.Register.TheVariants.{ADCL, ADCH, ADCSRA, ADCSRB, ADMUX}
use Rattle.avr_adc.specs.Registers.{register_at}
use Rattle.avr_adc.specs.Adc.{Adc, adc, divisor, begun, sampled, is_free_running, ended, stepped, after_read, started, controlled, with_control, with_register, kept}
use Rattle.avr_unit_model.specs.Life.{Act, Nothing, Read, Write, WriteBit, Enter, acted, state, stepping}
use Rattle.avr_adc.specs.AdcConversion.{IsStarted, IsConverted, Converts, length_of, next_length}

-- ---- what the processor does while a conversion is on the way

-- it may clear ADIF
record IsKept (old new : Adc) (c : Conversion) : Type 0 where
  conversion : new.conversion ≡ Some c
  result : new.result ≡ old.result
  clear : old.adif ≡ false → new.adif ≡ false
  first : old.first ≡ false → new.first ≡ false

kept_read : (v : Adc) (o : Option Register) (c : Conversion) → v.conversion ≡ Some c → IsKept v (at_register o v (after_read v)) c
kept_read v None c e = record { conversion = e; result = refl; clear = λ h. h; first = λ h. h }
kept_read v (Some ADCL) c e = record { conversion = e; result = refl; clear = λ h. h; first = λ h. h }
kept_read v (Some ADCH) c e = record { conversion = e; result = refl; clear = λ h. h; first = λ h. h }
kept_read v (Some ADCSRA) c e = record { conversion = e; result = refl; clear = λ h. h; first = λ h. h }
kept_read v (Some ADCSRB) c e = record { conversion = e; result = refl; clear = λ h. h; first = λ h. h }
kept_read v (Some ADMUX) c e = record { conversion = e; result = refl; clear = λ h. h; first = λ h. h }

-- ADSC begins none then
control_alone : (v : Adc) (t x : ℕ) (c : Conversion) → v.conversion ≡ Some c → with_control v t x ≡ controlled v x
control_alone v t x c e =
    ap (λ (o : Option Conversion). if is_set x 7 && is_set x 6 then started (controlled v x) o t else controlled v x) e
    ∙ same (is_set x 7 && is_set x 6) (controlled v x)
  where
    same : (b : Bool) (w : Adc) → (if b then w else w) ≡ w
    same true w = refl
    same false w = refl

kept_control : (v : Adc) (x : ℕ) (c : Conversion) → v.conversion ≡ Some c → v.aden ≡ true → is_set x 7 ≡ true → IsKept v (controlled v x) c
kept_control v x c e on h = record {
  conversion = cond-true (is_set x 7) v.conversion None h ∙ e;
  result = refl;
  clear = λ none. and_left v.adif (not (is_set x 4)) none;
  first = λ none. or_from v.first (not v.aden) none (not_from_true v.aden on);
}

kept_write : (v : Adc) (t : ℕ) (o : Option Register) (x : Register → ℕ) (c : Conversion) → v.conversion ≡ Some c → v.aden ≡ true →
    (at_register o v (λ r. with_register v t r (x r))).aden ≡ true → IsKept v (at_register o v (λ r. with_register v t r (x r))) c
kept_write v t None x c e on h = record { conversion = e; result = refl; clear = λ h. h; first = λ h. h }
kept_write v t (Some ADCL) x c e on h = record { conversion = e; result = refl; clear = λ h. h; first = λ h. h }
kept_write v t (Some ADCH) x c e on h = record { conversion = e; result = refl; clear = λ h. h; first = λ h. h }
kept_write v t (Some ADCSRA) x c e on h =
    let same = control_alone v t (x ADCSRA) c e in
    subst (λ (w : Adc). IsKept v w c) (sym same) (kept_control v (x ADCSRA) c e on (sym (ap (λ (w : Adc). w.aden) same) ∙ h))
kept_write v t (Some ADCSRB) x c e on h = record { conversion = e; result = refl; clear = λ h. h; first = λ h. h }
kept_write v t (Some ADMUX) x c e on h = record { conversion = e; result = refl; clear = λ h. h; first = λ h. h }

kept_enter : (v : Adc) (b : Bool) (c : Conversion) → v.conversion ≡ Some c → IsKept v (if b then record v { adif = false } else v) c
kept_enter v true c e = record { conversion = e; result = refl; clear = λ h. refl; first = λ h. h }
kept_enter v false c e = record { conversion = e; result = refl; clear = λ h. h; first = λ h. h }

kept_act : (v : Adc) (t : ℕ) (a : Act) (c : Conversion) → v.conversion ≡ Some c → v.aden ≡ true → (acted adc v t a).aden ≡ true → IsKept v (acted adc v t a) c
kept_act v t Nothing c e on h = record { conversion = e; result = refl; clear = λ h. h; first = λ h. h }
kept_act v t (Read a) c e on h = kept_read v (register_at a) c e
kept_act v t (Write a x) c e on h = kept_write v t (register_at a) (λ r. x) c e on h
kept_act v t (WriteBit a k b) c e on h = kept_write v t (register_at a) (λ r. with_bit (kept v r) k b) c e on h
kept_act v t (Enter w) c e on h = kept_enter v (w == 21) c e

-- ---- a conversion on the way

module _ (acts : ℕ → Act) (levels : ℕ → List Level) (u : Adc) (t : ℕ) where
  abbrev at : ℕ → Adc
  at n = state adc acts levels u t n

  -- conversion c, which began before cycle t + from, is on the way at the beginning of cycle t + n
  record Stands (from : ℕ) (c : Conversion) (n : ℕ) : Type 0 where
    conversion : (at n).conversion ≡ Some c
    result : (at n).result ≡ (at from).result
    clear : (at from).adif ≡ false → (at n).adif ≡ false
    first : (at n).first ≡ false
    on : (at n).aden ≡ true

  module _ (from : ℕ) (c : Conversion) where
    module _ (n : ℕ) (enabled : (stepping adc acts levels u t n).aden ≡ true) (s : Stands from c n) where
      abbrev v : Adc
      v = stepping adc acts levels u t n

      keeps : IsKept (at n) v c
      keeps = kept_act (at n) (t + n) (acts (t + n)) c s.conversion s.on enabled

      steps : at (suc n) ≡ (if c.end == t + n then ended v c (t + n) (levels (t + n)) else v)
      unfolding state
      steps = ap (λ (o : Option Conversion). stepped v o (t + n) (levels (t + n))) keeps.conversion

      -- nothing changes before its end
      waits : t + n < c.end → Stands from c (suc n)
      waits soon =
          let same : at (suc n) ≡ v = steps ∙ cond-false (c.end == t + n) (ended v c (t + n) (levels (t + n))) v (ne_eqb c.end (t + n) (λ e. omega (arith, e, soon))) in
          record {
            conversion = ap (λ (w : Adc). w.conversion) same ∙ keeps.conversion;
            result = ap (λ (w : Adc). w.result) same ∙ keeps.result ∙ s.result;
            clear = λ none. ap (λ (w : Adc). w.adif) same ∙ keeps.clear (s.clear none);
            first = ap (λ (w : Adc). w.first) same ∙ keeps.first s.first;
            on = ap (λ (w : Adc). w.aden) same ∙ enabled;
          }

      ends_now : c.end ≡ t + n → at (suc n) ≡ ended v c (t + n) (levels (t + n))
      ends_now e = steps ∙ cond-true (c.end == t + n) (ended v c (t + n) (levels (t + n))) v (eq-eqb c.end (t + n) e)

    module _ (last : ℕ) (end : c.end ≡ t + last) (enabled : (n : ℕ) → n ≤ last → (stepping adc acts levels u t n).aden ≡ true) (begins : Stands from c from) where
      stands : (k n : ℕ) → n ≡ from + k → n ≤ last → Stands from c n
      stands zero n e le = let same : from ≡ n = omega (arith, e) in subst (Stands from c) same begins
      stands (suc k) n e le =
          let next : suc (from + k) ≡ n = omega (arith, e) in
          subst (Stands from c) next
          (waits (from + k) (enabled (from + k) (omega (arith, e, le))) (stands k (from + k) refl (omega (arith, e, le))) (omega (arith, e, le, end)))

      stands_at : (n : ℕ) → from ≤ n → n ≤ last → Stands from c n
      stands_at n more le = stands (n - from) n (omega (arith, more)) le

      converted : from ≤ last → IsConverted acts levels u t from last c.channel
      converted some =
          let s = stands_at last some (omega arith) in
          let k = keeps last (enabled last (omega arith)) s in
          let v = stepping adc acts levels u t last in
          let one : last + 1 ≡ suc last = omega arith in
          let over : at (last + 1) ≡ ended v c (t + last) (levels (t + last)) = ap at one ∙ ends_now last (enabled last (omega arith)) s end in
          record {
            busy = λ n more le. ap is_some (stands_at n more le).conversion;
            waits = λ n more le none. (stands_at n more le).clear none;
            keeps = λ n more le. (stands_at n more le).result;
            adif = ap (λ (w : Adc). w.adif) over;
            value = λ open_now. ap (λ (w : Adc). w.result) over ∙ cond-false v.locked v.result (sampled (levels (t + last)) c.channel) open_now;
            kept = λ locked. ap (λ (w : Adc). w.result) over ∙ cond-true v.locked v.result (sampled (levels (t + last)) c.channel) locked ∙ k.result ∙ s.result;
            ends = λ single. ap (λ (w : Adc). w.conversion) over ∙ cond-false (is_free_running v) (Some (begun (t + last) 13 v.adps v.admux)) None single;
            begins = λ free. ap (λ (w : Adc). w.conversion) over ∙ cond-true (is_free_running v) (Some (begun (t + last) 13 v.adps v.admux)) None free;
            enabled = ap (λ (w : Adc). w.aden) over ∙ enabled last (omega arith);
            further = ap (λ (w : Adc). w.first) over ∙ k.first s.first;
          }

-- ---- one that was started, and the next one in free running mode

divisor_some : (n : ℕ) → 2 ≤ divisor n
divisor_some n =
    cond_both (n == 0) 2 _ (λ k. 2 ≤ k) (λ _. omega arith) (λ _.
    cond_both (n == 1) 2 _ (λ k. 2 ≤ k) (λ _. omega arith) (λ _.
    cond_both (n == 2) 4 _ (λ k. 2 ≤ k) (λ _. omega arith) (λ _.
    cond_both (n == 3) 8 _ (λ k. 2 ≤ k) (λ _. omega arith) (λ _.
    cond_both (n == 4) 16 _ (λ k. 2 ≤ k) (λ _. omega arith) (λ _.
    cond_both (n == 5) 32 _ (λ k. 2 ≤ k) (λ _. omega arith) (λ _.
    cond_both (n == 6) 64 128 (λ k. 2 ≤ k) (λ _. omega arith) (λ _. omega arith)))))))

length_some : (b : Bool) (d : ℕ) → 2 ≤ d → 1 ≤ (if b then 25 else 13) * d
length_some true d h = omega (arith, h)
length_some false d h = omega (arith, h)

module _ (acts : ℕ → Act) (levels : ℕ → List Level) (u : Adc) (t x : ℕ) (is : IsStarted acts levels u (with_control u t x) t x (length_of u x)) where
  abbrev written : Adc
  written = with_control u t x

  abbrev cycles : ℕ
  cycles = length_of u x

  abbrev first_one : Conversion
  first_one = record { end = t + cycles; channel = u.admux % 16 }

  abbrev after_write : Adc
  after_write = record (controlled u x) { first = false; conversion = Some first_one }

  started_at : written ≡ after_write
  started_at =
      ap (λ (o : Option Conversion). if is_set x 7 && is_set x 6 then started (controlled u x) o t else controlled u x) is.idle
      ∙ cond-true (is_set x 7 && is_set x 6) after_write (controlled u x) (and_from (is_set x 7) (is_set x 6) is.aden is.adsc)

  long : 1 ≤ cycles
  long = length_some (u.first || not u.aden) (divisor (x % 8)) (divisor_some (x % 8))

  begins : Stands acts levels written t 1 first_one 1
  unfolding state
  begins =
      let now : t + 0 ≡ t = omega arith in
      let nothing : acts (t + 0) ≡ Nothing = ap acts now ∙ is.nothing in
      let one : state adc acts levels written t 1 ≡ after_write =
      ap (λ (a : Act). stepped (acted adc written (t + 0) a) (acted adc written (t + 0) a).conversion (t + 0) (levels (t + 0))) nothing
      ∙ ap (λ (w : Adc). stepped w w.conversion (t + 0) (levels (t + 0))) started_at
      ∙ cond-false (first_one.end == t + 0) (ended after_write first_one (t + 0) (levels (t + 0))) after_write
      (ne_eqb (t + cycles) (t + 0) (later t cycles long)) in
      record {
        conversion = ap (λ (w : Adc). w.conversion) one;
        result = refl;
        clear = λ none. none;
        first = ap (λ (w : Adc). w.first) one;
        on = ap (λ (w : Adc). w.aden) one ∙ is.aden;
      }
    where
      later : (c k : ℕ) → 1 ≤ k → c + k ≡ c + 0 → ⊥
      later c k more e = omega (arith, more, e)

  first_conversion : IsConverted acts levels written t 1 cycles (u.admux % 16)
  first_conversion = converted acts levels written t 1 first_one cycles refl is.enabled begins long

module _ (acts : ℕ → Act) (levels : ℕ → List Level) (u : Adc) (t from last channel : ℕ) (done : IsConverted acts levels u t from last channel)
    (free : is_free_running (stepping adc acts levels u t last) ≡ true) where
  abbrev ending : Adc
  ending = stepping adc acts levels u t last

  next_conversion : ((n : ℕ) → n ≤ last + next_length acts levels u t last → (stepping adc acts levels u t n).aden ≡ true) →
      IsConverted acts levels u t (last + 1) (last + next_length acts levels u t last) (ending.admux % 16)
  next_conversion enabled =
      converted acts levels u t (last + 1) (begun (t + last) 13 ending.adps ending.admux) (last + next_length acts levels u t last)
      (joined t last (next_length acts levels u t last)) enabled
      (record { conversion = done.begins free; result = refl; clear = λ none. none; first = done.further; on = done.enabled })
      (later last (13 * divisor ending.adps) (some (divisor ending.adps) (divisor_some ending.adps)))
    where
      joined : (a b c : ℕ) → a + b + c ≡ a + (b + c)
      joined a b c = omega arith

      some : (d : ℕ) → 2 ≤ d → 1 ≤ 13 * d
      some d h = omega (arith, h)

      later : (a b : ℕ) → 1 ≤ b → a + 1 ≤ a + b
      later a b h = omega (arith, h)

pub adc_converts : (u : Adc) (t x : ℕ) → Converts u (with_register u t ADCSRA x) t x
adc_converts u t x = record {
  conversion = λ acts levels is. first_conversion acts levels u t x is;
  next = λ acts levels from last channel done free enabled. next_conversion acts levels (with_register u t ADCSRA x) t from last channel done free enabled;
}
