-- A half of a period of the TWI, cycle by cycle.
use Rattle.std.proofs.Common.{◌≡◌, ℕ, zero, suc, ◌+◌, ◌-◌, ◌*◌, ◌%◌, ◌<◌, ◌≤◌, ◌∙◌, List, Bool, true, false, Option, None, Some, refl, ap, sym, subst, arith}
use Rattle.std.specs.Prelude.{◌==◌, ◌&&◌, not, if◌then◌else◌}
use Rattle.std.proofs.lemmas.Bool.{and_left, and_right, cond-true, cond-false, eq-eqb, ne_eqb, not_from_true}
use Rattle.sim_base.specs.declared.signal.Level.{Level}
use Rattle.avr_unit.specs.Bits.{is_set, with_bit}
use Rattle.avr_unit.specs.Pad.{untouched}
use Rattle.avr_unit.specs.UnitMachine.{at_register}
use Rattle.avr_twi.specs.declared.registers.Register.{Register}
use Rattle.avr_twi.specs.declared.registers.Register.TheVariants.{TWBR, TWSR, TWDR, TWCR}
use Rattle.avr_twi.specs.declared.master.Stage.{Stage}
use Rattle.avr_twi.specs.declared.master.Action.{Action}
use Rattle.avr_twi.specs.declared.master.Master.{Master}
use Rattle.avr_twi.specs.Registers.{register_at}
use Rattle.avr_twi.specs.Master.{sda_of, scl_of, going, acted as moved, advanced, free, begun, idle_begins, controlled}
use Rattle.avr_twi.specs.Twi.{Twi, twi, half_period, prescaler, open_drain, sda, scl, with_register, kept}
use Rattle.avr_unit_model.specs.Life.{Act, Nothing, Read, Write, WriteBit, Enter, acted, state, stepping}
use Rattle.avr_twi.specs.TwiActions.{IsBegun, Shows, Holds}

-- ---- what the processor does while an action is on the way: it may write registers, but not clear TWEN

record IsKept (old new : Master) (a : Action) : Type 0 where
  action : new.action ≡ Some a
  sda : new.sda ≡ old.sda
  scl : new.scl ≡ old.scl
  twint : old.twint ≡ false → new.twint ≡ false

same : (m : Master) (a : Action) → m.action ≡ Some a → IsKept m m a
same m a e = record { action = e; sda = refl; scl = refl; twint = λ none. none }

abbrev pub with_control : Master → ℕ → Master
with_control m x = record m { twcr = x; twint = m.twint && not (is_set x 7) }

control_twcr : (m : Master) (x half t : ℕ) (a : Action) → m.action ≡ Some a → (controlled m x half t).twcr ≡ x
control_twcr m x half t a e =
    ap (λ (o : Option Action). (if not (is_set x 2) then free (with_control m x) else if is_set x 7 then idle_begins (with_control m x) o half t else with_control m x).twcr) e
    ∙ by (not (is_set x 2)) (is_set x 7)
  where
    by : (p q : Bool) → (if p then free (with_control m x) else if q then with_control m x else with_control m x).twcr ≡ x
    by true q = refl
    by false true = refl
    by false false = refl

control_is : (m : Master) (x half t : ℕ) (a : Action) → m.action ≡ Some a → is_set x 2 ≡ true → controlled m x half t ≡ with_control m x
control_is m x half t a e on =
    ap (λ (o : Option Action). if not (is_set x 2) then free (with_control m x) else if is_set x 7 then idle_begins (with_control m x) o half t else with_control m x) e
    ∙ cond-false (not (is_set x 2)) (free (with_control m x)) _ (not_from_true (is_set x 2) on)
    ∙ by (is_set x 7)
  where
    by : (q : Bool) → (if q then with_control m x else with_control m x) ≡ with_control m x
    by true = refl
    by false = refl

kept_write : (v : Twi) (t : ℕ) (o : Option Register) (x : Register → ℕ) (a : Action) → v.master.action ≡ Some a →
    is_set (at_register o v (λ r. with_register v t r (x r))).master.twcr 2 ≡ true → IsKept v.master (at_register o v (λ r. with_register v t r (x r))).master a
kept_write v t None x a e on = same v.master a e
kept_write v t (Some TWBR) x a e on = same v.master a e
kept_write v t (Some TWSR) x a e on = same v.master a e
kept_write v t (Some TWDR) x a e on = record { action = e; sda = refl; scl = refl; twint = λ none. none }
kept_write v t (Some TWCR) x a e on =
    let set : is_set (x TWCR) 2 ≡ true = ap (λ (r : ℕ). is_set r 2) (sym (control_twcr v.master (x TWCR) (half_period v) t a e)) ∙ on in
    let is = control_is v.master (x TWCR) (half_period v) t a e set in
    record {
      action = ap (λ (m : Master). m.action) is ∙ e;
      sda = ap (λ (m : Master). m.sda) is;
      scl = ap (λ (m : Master). m.scl) is;
      twint = λ none. ap (λ (m : Master). m.twint) is ∙ and_left v.master.twint (not (is_set (x TWCR) 7)) none;
    }

kept_act : (v : Twi) (t : ℕ) (b : Act) (a : Action) → v.master.action ≡ Some a → is_set (acted twi v t b).master.twcr 2 ≡ true → IsKept v.master (acted twi v t b).master a
kept_act v t Nothing a e on = same v.master a e
kept_act v t (Read r) a e on = same v.master a e
kept_act v t (Write r x) a e on = kept_write v t (register_at r) (λ r. x) a e on
kept_act v t (WriteBit r k b) a e on = kept_write v t (register_at r) (λ r. with_bit (kept v r) k b) a e on
kept_act v t (Enter w) a e on = same v.master a e

-- ---- one cycle

module _ (acts : ℕ → Act) (levels : ℕ → List Level) (u v : Twi) (t : ℕ) where
  abbrev pub at : ℕ → Twi
  at n = state twi acts levels v t n

  abbrev pub done : ℕ → Twi
  done n = stepping twi acts levels v t n

  -- half a period is on the way at the beginning of cycle t + n
  pub record Stands (stage : Stage) (half event : ℕ) (clock : Bool) (n : ℕ) : Type 0 where
    pub action : (at n).master.action ≡ Some (record { half = half; stage = stage; event = event })
    pub line : (at n).master.sda ≡ sda_of stage
    pub clock_is : (at n).master.scl ≡ clock
    pub twint : (at n).master.twint ≡ false
    pub on : is_set (at n).master.twcr 2 ≡ true

  module _ (stage : Stage) (half event : ℕ) (clock : Bool) (n : ℕ) (enabled : is_set (done n).master.twcr 2 ≡ true) (s : Stands stage half event clock n) where
    keeps : IsKept (at n).master (done n).master (record { half = half; stage = stage; event = event })
    keeps = kept_act (at n) (t + n) (acts (t + n)) (record { half = half; stage = stage; event = event }) s.action enabled

    steps : (at (suc n)).master ≡ (if event == t + n then moved (done n).master stage half (t + n) (sda (levels (t + n))) (scl (levels (t + n))) (half_period (done n)) else (done n).master)
    unfolding state
    steps = ap (λ (o : Option Action). advanced (done n).master o (t + n) (sda (levels (t + n))) (scl (levels (t + n))) (half_period (done n))) keeps.action

    -- nothing changes before its last cycle
    waits : t + n < event → Stands stage half event clock (suc n)
    waits soon =
        let same_one : (at (suc n)).master ≡ (done n).master = steps ∙ cond-false (event == t + n) _ _ (ne_eqb event (t + n) (λ e. omega (arith, e, soon))) in
        record {
          action = ap (λ (m : Master). m.action) same_one ∙ keeps.action;
          line = ap (λ (m : Master). m.sda) same_one ∙ keeps.sda ∙ s.line;
          clock_is = ap (λ (m : Master). m.scl) same_one ∙ keeps.scl ∙ s.clock_is;
          twint = ap (λ (m : Master). m.twint) same_one ∙ keeps.twint s.twint;
          on = ap (λ (m : Master). is_set m.twcr 2) same_one ∙ enabled;
        }

    ends_now : event ≡ t + n → (at (suc n)).master ≡ moved (done n).master stage half (t + n) (sda (levels (t + n))) (scl (levels (t + n))) (half_period (done n))
    ends_now e = steps ∙ cond-true (event == t + n) _ _ (eq-eqb event (t + n) e)

  -- ---- half a period

  pub pads : (stage : Stage) (half event : ℕ) (clock : Bool) (n : ℕ) → Stands stage half event clock n → Shows acts levels u v t (sda_of stage) clock n
  pads stage half event clock n s = record {
    data_pin = ap (λ (b : Bool). if b then open_drain (at n).master.sda else untouched) s.on ∙ ap open_drain s.line;
    clock_pin = ap (λ (b : Bool). if b then open_drain (at n).master.scl else untouched) s.on ∙ ap open_drain s.clock_is;
  }

  -- It begins after cycle t + b.
  module _ (stage : Stage) (half b : ℕ) (clock : Bool) (some : 1 ≤ half) (enabled : (n : ℕ) → n ≤ b + half → is_set (done n).master.twcr 2 ≡ true)
      (begins : Stands stage half (t + b + half) clock (suc b)) where
    stays : (k n : ℕ) → n ≡ suc b + k → n ≤ b + half → Stands stage half (t + b + half) clock n
    stays zero n e le = let here : suc b ≡ n = omega (arith, e) in subst (Stands stage half (t + b + half) clock) here begins
    stays (suc k) n e le =
        let next : suc (suc b + k) ≡ n = omega (arith, e) in
        subst (Stands stage half (t + b + half) clock) next
        (waits stage half (t + b + half) clock (suc b + k) (enabled (suc b + k) (omega (arith, e, le))) (stays k (suc b + k) refl (omega (arith, e, le))) (omega (arith, e, le)))

    stands_at : (n : ℕ) → b < n → n ≤ b + half → Stands stage half (t + b + half) clock n
    stands_at n more le = stays (n - suc b) n (omega (arith, more)) le

    pub holds : Holds acts levels u v t b (b + half) (sda_of stage) clock
    holds n more le = let s = stands_at n more le in (pads stage half (t + b + half) clock n s, s.twint)

    last_stands : Stands stage half (t + b + half) clock (b + half)
    last_stands = stands_at (b + half) (omega (arith, some)) (omega arith)

    -- what its last cycle leaves
    pub record Ends : Type 0 where
      pub new : (at (suc (b + half))).master
          ≡ moved (done (b + half)).master stage half (t + (b + half)) (sda (levels (t + (b + half)))) (scl (levels (t + (b + half)))) (half_period (done (b + half)))
      pub clock_is : (done (b + half)).master.scl ≡ clock
      pub twint : (done (b + half)).master.twint ≡ false
      pub on : is_set (done (b + half)).master.twcr 2 ≡ true

    pub ends : Ends
    ends =
        let on = enabled (b + half) (omega arith) in
        let k = keeps stage half (t + b + half) clock (b + half) on last_stands in
        record {
          new = ends_now stage half (t + b + half) clock (b + half) on last_stands (omega arith);
          clock_is = k.scl ∙ last_stands.clock_is;
          twint = k.twint last_stands.twint;
          on = on;
        }

    -- another one may follow
    pub follows : (next : Stage) (half' : ℕ) → (at (suc (b + half))).master ≡ going (done (b + half)).master next half' (t + (b + half)) →
        Stands next half' (t + (b + half) + half') (scl_of next clock) (suc (b + half))
    follows next half' went =
        let e = ends in
        record {
          action = ap (λ (m : Master). m.action) went;
          line = ap (λ (m : Master). m.sda) went;
          clock_is = ap (λ (m : Master). m.scl) went ∙ ap (scl_of next) e.clock_is;
          twint = ap (λ (m : Master). m.twint) went ∙ e.twint;
          on = ap (λ (m : Master). is_set m.twcr 2) went ∙ e.on;
        }

  -- ---- the cycle of the write

  pub next_some : (n : ℕ) → 1 ≤ half_period (done n)
  next_some n = plain ((done n).twbr * prescaler ((done n).twsr % 4))
    where
      plain : (k : ℕ) → 1 ≤ 8 + k
      plain k = omega arith

  pub half_some : 1 ≤ half_period u
  half_some = plain (u.twbr * prescaler (u.twsr % 4))
    where
      plain : (k : ℕ) → 1 ≤ 8 + k
      plain k = omega arith

  -- the write leaves that in v
  abbrev pub Wrote : ℕ → Type 0
  Wrote x = v.master ≡ controlled u.master x (half_period u) t

  pub first_half : (x cycles : ℕ) (wrote : Wrote x) (is : IsBegun acts levels u v t x cycles) (stage : Stage) →
      begun (with_control u.master x) (half_period u) t ≡ going (with_control u.master x) stage (half_period u) t →
      Stands stage (half_period u) (t + 0 + half_period u) (scl_of stage u.master.scl) 1
  unfolding state
  first_half x cycles wrote is stage what =
      let now : t + 0 ≡ t = omega arith in
      let nothing : acts (t + 0) ≡ Nothing = ap acts now ∙ is.nothing in
      let begins : v.master ≡ going (with_control u.master x) stage (half_period u) t =
      wrote
      ∙ cond-false (not (is_set x 2)) (free (with_control u.master x)) _ (not_from_true (is_set x 2) is.twen)
      ∙ cond-true (is_set x 7) (idle_begins (with_control u.master x) u.master.action (half_period u) t) (with_control u.master x) is.twint
      ∙ ap (λ (o : Option Action). idle_begins (with_control u.master x) o (half_period u) t) is.idle
      ∙ what in
      let went : (at 1).master ≡ going (with_control u.master x) stage (half_period u) t =
      ap (λ (a : Act). advanced (acted twi v (t + 0) a).master (acted twi v (t + 0) a).master.action (t + 0) (sda (levels (t + 0))) (scl (levels (t + 0))) (half_period (acted twi v (t + 0) a))) nothing
      ∙ ap (λ (m : Master). advanced m m.action (t + 0) (sda (levels (t + 0))) (scl (levels (t + 0))) (half_period v)) begins
      ∙ cond-false (t + half_period u == t + 0) _ _ (ne_eqb (t + half_period u) (t + 0) (later t (half_period u) half_some)) in
      record {
        action = ap (λ (m : Master). m.action) went ∙ ap (λ (c : ℕ). Some (event_at c)) (sym now);
        line = ap (λ (m : Master). m.sda) went;
        clock_is = ap (λ (m : Master). m.scl) went;
        twint = ap (λ (m : Master). m.twint) went ∙ and_right u.master.twint (not (is_set x 7)) (not_from_true (is_set x 7) is.twint);
        on = ap (λ (m : Master). is_set m.twcr 2) went ∙ is.twen;
      }
    where
      event_at : ℕ → Action
      event_at c = record { half = half_period u; stage = stage; event = c + half_period u }

      later : (c k : ℕ) → 1 ≤ k → c + k ≡ c + 0 → ⊥
      later c k more e = omega (arith, more, e)
