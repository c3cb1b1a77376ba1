-- A START, a byte and a STOP of the TWI as a master, half period by half period.
use Rattle.std.proofs.Common.{◌≡◌, ℕ, zero, suc, ◌+◌, ◌*◌, ◌≤◌, ◌∙◌, inl, inr, List, Bool, true, false, None, refl, ap, sym, subst, arith}
use Rattle.std.specs.Prelude.{◌&&◌, not, if◌then◌else◌}
use Rattle.std.proofs.Math.Nat.{suc-mul, mul-le-mul_right}
use Rattle.std.proofs.lemmas.Bool.{cases_lt, cond-true, cond-false}
use Rattle.sim_base.specs.declared.signal.Level.{Level}
use Rattle.avr_unit.specs.Bits.{is_set, with_bit}
use Rattle.avr_unit.specs.Pad.{untouched}
use Rattle.avr_unit.proofs.BitLemmas.{bit_keeps}
use Rattle.avr_twi.specs.declared.status.Status.{Status}
use Rattle.avr_twi.specs.declared.status.Status.TheVariants.{Start, RepeatedStart, NoInformation}
use Rattle.avr_twi.specs.declared.master.Stage.{Stage}
use Rattle.avr_twi.specs.declared.master.Stage.TheVariants.{StartRelease, StartSetup, StartHold, StopLow, StopSetup}
use Rattle.avr_twi.specs.declared.master.Master.{Master}
use Rattle.avr_twi.specs.Status.{code}
use Rattle.avr_twi.specs.Master.{going, ended, stopped, begun}
use Rattle.avr_twi.specs.Twi.{Twi, twi, half_period, open_drain, sda, scl}
use Rattle.avr_unit_model.specs.Life.{Act, state, stepping}
use Rattle.avr_twi.specs.TwiActions.{next_half, IsBegun, Holds, IsDone, IsFree, IsStart, IsStop}
use Rattle.avr_unit_model.proofs.BitLemmas.{bit_written}
use Rattle.avr_twi.proofs.HalvesLemmas.{Stands, Ends, Wrote, holds, ends, follows, first_half, half_some, next_some, with_control}

module _ (acts : ℕ → Act) (levels : ℕ → List Level) (u v : Twi) (t : ℕ) where
  abbrev at : ℕ → Twi
  at n = state twi acts levels v t n

  abbrev done : ℕ → Twi
  done n = stepping twi acts levels v t n

  abbrev h : ℕ
  h = half_period u

  abbrev pub some : 1 ≤ h
  some = half_some acts levels u v t

  abbrev pub stands : Stage → ℕ → Bool → Type 0
  stands stage b clock = Stands acts levels u v t stage h (t + b + h) clock (suc b)

  abbrev pub On : ℕ → Type 0
  On cycles = (n : ℕ) → n ≤ cycles → is_set (done n).master.twcr 2 ≡ true

  pub on_to : (cycles k : ℕ) → k ≤ cycles → On cycles → On k
  on_to cycles k le on n less = on n (omega (arith, le, less))

  abbrev pub ends_of : (stage : Stage) (b : ℕ) (clock : Bool) (on : On (b + h)) (s : stands stage b clock) → Ends acts levels u v t stage h b clock some on s
  ends_of stage b clock on s = ends acts levels u v t stage h b clock some on s

  -- the lines over some cycles, told by other numbers
  pub same_cycles : (from to from' to' : ℕ) (a b : Bool) → from ≡ from' → to ≡ to' → Holds acts levels u v t from to a b → Holds acts levels u v t from' to' a b
  same_cycles from to from' to' a b e f has =
      subst (λ (k : ℕ). Holds acts levels u v t k to' a b) e (subst (λ (k : ℕ). Holds acts levels u v t from k a b) f has)

  pub joined : (from middle to : ℕ) (a b : Bool) → Holds acts levels u v t from middle a b → Holds acts levels u v t middle to a b → Holds acts levels u v t from to a b
  joined from middle to a b p q n more le = elim (cases_lt middle n) [
    | inl later ↦ q n later le
    | inr early ↦ p n more early
  ]

  pub rebased : (stage : Stage) (b b' : ℕ) (clock : Bool) → b ≡ b' → stands stage b clock → stands stage b' clock
  rebased stage b b' clock e s = subst (λ (k : ℕ). stands stage k clock) e s

  -- an action ends with TWINT and a status
  pub is_done : (n : ℕ) (m : Master) (status : Status) → is_set m.twcr 2 ≡ true → (at (suc n)).master ≡ ended m status → IsDone acts levels u v t (code status) (n + 1)
  is_done n m status on e =
      let one_more : suc n ≡ n + 1 = omega arith in
      subst (IsDone acts levels u v t (code status)) one_more (record {
        twint = ap (λ (x : Master). x.twint) e;
        twsr = ap (λ (x : Master). code x.status) e;
        clock = ap (λ (x : Master). if is_set x.twcr 2 then open_drain x.scl else untouched) e ∙ cond-true (is_set m.twcr 2) (open_drain false) untouched on;
        over = ap (λ (x : Master). x.action) e;
      })

  -- ---- START

  module _ (repeated clock : Bool) (from half r : ℕ) (least : 1 ≤ half) (on : On (from + (r + 3) * half))
      (begins : Stands acts levels u v t (StartRelease repeated) half (t + from + half) clock (suc from)) (bus : IsFree acts levels u v t from half r) where
    abbrev half_stands : Stage → ℕ → Bool → Type 0
    half_stands stage b line = Stands acts levels u v t stage half (t + b + half) line (suc b)

    abbrev half_ends : (stage : Stage) (b : ℕ) (line : Bool) (on : On (b + half)) (s : half_stands stage b line) → Ends acts levels u v t stage half b line least on s
    half_ends stage b line on s = ends acts levels u v t stage half b line least on s

    abbrev base : ℕ → ℕ
    base j = from + j * half

    moved_to : (stage : Stage) (b b' : ℕ) (line : Bool) → b ≡ b' → half_stands stage b line → half_stands stage b' line
    moved_to stage b b' line e s = subst (λ (k : ℕ). half_stands stage k line) e s

    rows : (j : ℕ) → base (suc j) ≡ base j + half
    rows j = let e = suc-mul j half in omega (arith, e)

    within : (j : ℕ) → j ≤ r + 3 → On (base j)
    within j le = let m = mul-le-mul_right half le in on_to (from + (r + 3) * half) (base j) (omega (arith, m)) on

    on_next : (j : ℕ) → suc j ≤ r + 3 → On (base j + half)
    on_next j le = subst On (rows j) (within (suc j) le)

    first_row : from + half ≡ base 1
    first_row = omega arith

    first_on : On (from + half)
    first_on = subst On (sym first_row) (within 1 (omega arith))

    setup_first : half_stands (StartSetup repeated) (base 1) true
    setup_first = moved_to (StartSetup repeated) (from + half) (base 1) true first_row
        (follows acts levels u v t (StartRelease repeated) half from clock least first_on begins (StartSetup repeated) half (half_ends (StartRelease repeated) from clock first_on begins).new)

    -- the second half period comes again while a line reads 0
    setup_again : (j : ℕ) → j ≤ r → half_stands (StartSetup repeated) (base (suc j)) true × Holds acts levels u v t (from + half) (base (suc j)) true true
    setup_again zero le = (setup_first, λ n more less. let e = first_row in absurd (omega (arith, more, less, e)))
    setup_again (suc j) le =
        let s = setup_again j (omega (arith, le)) in
        let here = on_next (suc j) (omega (arith, le)) in
        let e = half_ends (StartSetup repeated) (base (suc j)) true here s.0 in
        let two : j + 2 ≡ suc (suc j) = omega arith in
        let cycle : base (suc j) + half ≡ from + (j + 2) * half = sym (rows (suc j)) ∙ ap (λ (k : ℕ). from + k * half) (sym two) in
        let low : (sda (levels (t + (base (suc j) + half))) && scl (levels (t + (base (suc j) + half)))) ≡ false =
        ap (λ (k : ℕ). sda (levels (t + k)) && scl (levels (t + k))) cycle ∙ bus.waits j (omega (arith, le)) in
        let went = e.new ∙ ap (λ (b : Bool). going (done (base (suc j) + half)).master (if b then StartHold repeated else StartSetup repeated) half (t + (base (suc j) + half))) low in (
          moved_to (StartSetup repeated) (base (suc j) + half) (base (suc (suc j))) true (sym (rows (suc j)))
              (follows acts levels u v t (StartSetup repeated) half (base (suc j)) true least here s.0 (StartSetup repeated) half went),
          joined (from + half) (base (suc j)) (base (suc (suc j))) true true s.1
              (same_cycles (base (suc j)) (base (suc j) + half) (base (suc j)) (base (suc (suc j))) true true refl (sym (rows (suc j)))
              (holds acts levels u v t (StartSetup repeated) half (base (suc j)) true least here s.0)),
        )

    abbrev last : ℕ
    last = base (suc r)

    two_rows : last + half ≡ from + (r + 2) * half
    two_rows = let two : r + 2 ≡ suc (suc r) = omega arith in sym (rows (suc r)) ∙ ap (λ (k : ℕ). from + k * half) (sym two)

    three_rows : last + half + half ≡ from + (r + 3) * half
    three_rows =
        let three : r + 3 ≡ suc (r + 2) = omega arith in
        let e = ap (λ (k : ℕ). from + k * half) three ∙ rows (r + 2) in
        let f = two_rows in
        omega (arith, e, f)

    hold_begins : half_stands (StartHold repeated) (last + half) true
    hold_begins =
        let s = (setup_again r (omega arith)).0 in
        let here = on_next (suc r) (omega arith) in
        let e = half_ends (StartSetup repeated) last true here s in
        let high : (sda (levels (t + (last + half))) && scl (levels (t + (last + half)))) ≡ true =
        ap (λ (k : ℕ). sda (levels (t + k)) && scl (levels (t + k))) two_rows ∙ bus.free in
        follows acts levels u v t (StartSetup repeated) half last true least here s (StartHold repeated) half
        (e.new ∙ ap (λ (b : Bool). going (done (last + half)).master (if b then StartHold repeated else StartSetup repeated) half (t + (last + half))) high)

    hold_on : On (last + half + half)
    hold_on = subst On (sym three_rows) on

    start_so : (held : Bool) → clock ≡ not held → repeated ≡ held → IsStart acts levels u v t from half r held
    start_so held e f =
        let s = setup_again r (omega arith) in
        let d = half_ends (StartHold repeated) (last + half) true hold_on hold_begins in
        record {
          release = subst (λ (b : Bool). Holds acts levels u v t from (from + half) true b) e (holds acts levels u v t (StartRelease repeated) half from clock least first_on begins);
          setup = joined (from + half) last (from + (r + 2) * half) true true s.1
              (same_cycles last (last + half) last (from + (r + 2) * half) true true refl two_rows (holds acts levels u v t (StartSetup repeated) half last true least (on_next (suc r) (omega arith)) s.0));
          hold = same_cycles (last + half) (last + half + half) (from + (r + 2) * half) (from + (r + 3) * half) false true two_rows three_rows
              (holds acts levels u v t (StartHold repeated) half (last + half) true least hold_on hold_begins);
          done = subst (λ (b : Bool). IsDone acts levels u v t (if b then 0x10 else 0x08) (from + (r + 3) * half + 1)) f
              (subst (λ (k : ℕ). IsDone acts levels u v t k (from + (r + 3) * half + 1)) (status_by repeated)
              (subst (λ (k : ℕ). IsDone acts levels u v t (code (if repeated then RepeatedStart else Start)) (k + 1)) three_rows
              (is_done (last + half + half) (done (last + half + half)).master (if repeated then RepeatedStart else Start) d.on d.new)));
        }
      where
        status_by : (b : Bool) → code (if b then RepeatedStart else Start) ≡ (if b then 0x10 else 0x08)
        status_by true = refl
        status_by false = refl

  pub twi_start : (x r : ℕ) → Wrote acts levels u v t x → IsBegun acts levels u v t x ((r + 3) * h) → is_set x 5 ≡ true → is_set x 4 ≡ false → IsFree acts levels u v t 0 h r →
      IsStart acts levels u v t 0 h r (not u.master.scl)
  twi_start x r wrote is twsta twsto bus =
      let m = with_control u.master x in
      let repeated = not u.master.scl in
      let what : begun m h t ≡ going m (StartRelease repeated) h t =
      cond-false (is_set x 4) (going m (StopLow (is_set x 5)) h t) _ twsto ∙ cond-true (is_set x 5) (going m (StartRelease repeated) h t) _ twsta in
      start_so repeated u.master.scl 0 h r some (on_to ((r + 3) * h) (0 + (r + 3) * h) (omega arith) is.enabled)
      (first_half acts levels u v t x ((r + 3) * h) wrote is (StartRelease repeated) what) bus repeated (twice u.master.scl) refl
    where
      twice : (b : Bool) → b ≡ not (not b)
      twice true = refl
      twice false = refl

  -- ---- STOP

  module _ (then_start : Bool) (on : On (2 * h)) (begins : stands (StopLow then_start) 0 false) where
    two : h + h ≡ 2 * h
    two = omega arith

    low_on : On (0 + h)
    low_on = on_to (2 * h) (0 + h) (omega arith) on

    setup_on : On (h + h)
    setup_on = subst On (sym two) on

    stop_setup : stands (StopSetup then_start) h true
    stop_setup =
        let e : 0 + h ≡ h = omega arith in
        rebased (StopSetup then_start) (0 + h) h true e
        (follows acts levels u v t (StopLow then_start) h 0 false some low_on begins (StopSetup then_start) h (ends_of (StopLow then_start) 0 false low_on begins).new)

    abbrev later_half : ℕ
    later_half = next_half acts levels u v t

    then_begins : then_start ≡ true → Stands acts levels u v t (StartRelease false) later_half (t + 2 * h + later_half) true (suc (2 * h))
    then_begins yes_start =
        let e = ends_of (StopSetup then_start) h true setup_on stop_setup in
        let m = (done (2 * h)).master in
        let went : (at (suc (2 * h))).master ≡ going (record m { sda = true; scl = true; action = None; twcr = with_bit m.twcr 4 false; status = NoInformation }) (StartRelease false) later_half (t + 2 * h) =
        subst (λ (k : ℕ). (at (suc k)).master ≡ stopped (done k).master then_start (half_period (done k)) (t + k)) two e.new
        ∙ ap (λ (b : Bool). stopped m b later_half (t + 2 * h)) yes_start in
        let on_there : is_set m.twcr 2 ≡ true = on (2 * h) (omega arith) in
        let quiet : m.twint ≡ false = subst (λ (k : ℕ). (done k).master.twint ≡ false) two e.twint in
        record {
          action = ap (λ (x : Master). x.action) went;
          line = ap (λ (x : Master). x.sda) went;
          clock_is = ap (λ (x : Master). x.scl) went;
          twint = ap (λ (x : Master). x.twint) went ∙ quiet;
          on = ap (λ (x : Master). is_set x.twcr 2) went ∙ bit_keeps m.twcr 4 2 false (λ z. omega (arith, z)) ∙ on_there;
        }

    stop_so : IsStop acts levels u v t
    stop_so =
        let e = ends_of (StopSetup then_start) h true setup_on stop_setup in
        let m = (done (h + h)).master in
        let one_more : suc (h + h) ≡ 2 * h + 1 = omega arith in
        let over : (at (2 * h + 1)).master ≡ stopped m then_start (half_period (done (h + h))) (t + (h + h)) = ap (λ (k : ℕ). (at k).master) (sym one_more) ∙ e.new in
        let free_bit : is_set (with_bit m.twcr 4 false) 2 ≡ true = bit_keeps m.twcr 4 2 false (λ z. omega (arith, z)) ∙ e.on in
        let after = stopped m then_start (half_period (done (h + h))) (t + (h + h)) in
        record {
          low = same_cycles 0 (0 + h) 0 h false false refl (let z : 0 + h ≡ h = omega arith in z) (holds acts levels u v t (StopLow then_start) h 0 false some low_on begins);
          setup = same_cycles h (h + h) h (2 * h) false true refl two (holds acts levels u v t (StopSetup then_start) h h true some setup_on stop_setup);
          lines = record {
            data_pin = ap (λ (x : Master). if is_set x.twcr 2 then open_drain x.sda else untouched) over ∙ pin_by m then_start _ _ free_bit;
            clock_pin = ap (λ (x : Master). if is_set x.twcr 2 then open_drain x.scl else untouched) over ∙ clock_by m then_start _ _ free_bit;
          };
          twsto = ap (λ (x : Master). is_set x.twcr 4) over ∙ twsto_by m then_start _ _;
          twint = ap (λ (x : Master). x.twint) over ∙ twint_by m then_start _ _ ∙ e.twint;
          twsr = ap (λ (x : Master). code x.status) over ∙ code_by m then_start _ _;
        }
      where
        pin_by : (m : Master) (b : Bool) (half c : ℕ) → is_set (with_bit m.twcr 4 false) 2 ≡ true →
            (if is_set (stopped m b half c).twcr 2 then open_drain (stopped m b half c).sda else untouched) ≡ open_drain true
        pin_by m true half c on = cond-true (is_set (with_bit m.twcr 4 false) 2) (open_drain true) untouched on
        pin_by m false half c on = cond-true (is_set (with_bit m.twcr 4 false) 2) (open_drain true) untouched on

        clock_by : (m : Master) (b : Bool) (half c : ℕ) → is_set (with_bit m.twcr 4 false) 2 ≡ true →
            (if is_set (stopped m b half c).twcr 2 then open_drain (stopped m b half c).scl else untouched) ≡ open_drain true
        clock_by m true half c on = cond-true (is_set (with_bit m.twcr 4 false) 2) (open_drain true) untouched on
        clock_by m false half c on = cond-true (is_set (with_bit m.twcr 4 false) 2) (open_drain true) untouched on

        twsto_by : (m : Master) (b : Bool) (half c : ℕ) → is_set (stopped m b half c).twcr 4 ≡ false
        twsto_by m true half c = bit_written m.twcr 4 false
        twsto_by m false half c = bit_written m.twcr 4 false

        twint_by : (m : Master) (b : Bool) (half c : ℕ) → (stopped m b half c).twint ≡ m.twint
        twint_by m true half c = refl
        twint_by m false half c = refl

        code_by : (m : Master) (b : Bool) (half c : ℕ) → code (stopped m b half c).status ≡ 0xF8
        code_by m true half c = refl
        code_by m false half c = refl

  pub twi_stop : (x : ℕ) → Wrote acts levels u v t x → IsBegun acts levels u v t x (2 * h) → is_set x 4 ≡ true → IsStop acts levels u v t
  twi_stop x wrote is twsto =
      let m = with_control u.master x in
      stop_so (is_set x 5) is.enabled
      (first_half acts levels u v t x (2 * h) wrote is (StopLow (is_set x 5)) (cond-true (is_set x 4) (going m (StopLow (is_set x 5)) h t) _ twsto))

  -- with TWSTA too a START follows, while SCL is not held
  pub twi_stop_start : (x r : ℕ) → Wrote acts levels u v t x → IsBegun acts levels u v t x (2 * h + (r + 3) * next_half acts levels u v t) → is_set x 4 ≡ true → is_set x 5 ≡ true →
      IsFree acts levels u v t (2 * h) (next_half acts levels u v t) r → IsStart acts levels u v t (2 * h) (next_half acts levels u v t) r false
  twi_stop_start x r wrote is twsto twsta bus =
      let m = with_control u.master x in
      let on = on_to (2 * h + (r + 3) * next_half acts levels u v t) (2 * h) (omega arith) is.enabled in
      let begins = first_half acts levels u v t x (2 * h + (r + 3) * next_half acts levels u v t) wrote is (StopLow true)
      (cond-true (is_set x 4) (going m (StopLow (is_set x 5)) h t) _ twsto ∙ ap (λ (b : Bool). going m (StopLow b) h t) twsta) in
      start_so false true (2 * h) (next_half acts levels u v t) r (next_some acts levels u v t (2 * h)) is.enabled (then_begins true on begins refl) bus false refl refl
