-- A byte of the TWI as a master, bit by bit.
use Rattle.std.proofs.Common.{◌≡◌, ◌≢◌, ℕ, zero, suc, ◌+◌, ◌-◌, ◌*◌, ◌<◌, ◌≤◌, ◌∙◌, inl, inr, List, Bool, true, false, Option, Some, refl, ap, sym, subst, arith}
use Rattle.std.specs.Prelude.{◌==◌, ◌&&◌, not, if◌then◌else◌}
use Rattle.std.proofs.Math.Nat.{suc-mul, mul-le-mul_right}
use Rattle.std.proofs.lemmas.Bool.{cases_lt, cond-true, cond-false, ne_eqb}
use Rattle.std.proofs.lemmas.Nat.Bits.{bit_at_ones}
use Rattle.sim_base.specs.declared.signal.Level.{Level}
use Rattle.avr_unit.specs.Bits.{is_set, with_bit}
use Rattle.avr_unit.specs.Pad.{untouched}
use Rattle.avr_unit.proofs.BitLemmas.{bit_keeps}
use Rattle.avr_twi.specs.declared.packet.Kind.{Kind}
use Rattle.avr_twi.specs.declared.packet.Kind.TheVariants.{SlaW, SlaR, DataOut, DataIn}
use Rattle.avr_twi.specs.declared.packet.Packet.{Packet}
use Rattle.avr_twi.specs.declared.master.Stage.TheVariants.{BitLow, BitHigh, StopLow, StartRelease}
use Rattle.avr_twi.specs.declared.master.Master.{Master}
use Rattle.avr_twi.specs.declared.registers.Register.TheVariants.{TWCR}
use Rattle.avr_twi.specs.Status.{code}
use Rattle.avr_twi.specs.Packet.{wanted, answered, packet, bit_of, is_sent, is_sent_of, data_after, data_of}
use Rattle.avr_twi.specs.Master.{going, ended, lost, bit_over, sent}
use Rattle.avr_twi.specs.Twi.{Twi, twi, half_period, with_register, open_drain, sda}
use Rattle.avr_unit_model.specs.Life.{Act, state, stepping}
use Rattle.avr_twi.specs.TwiActions.{line_bit, sends, IsBegun, Holds, IsDone, data_reads, loses, IsByte, IsLost, MasterDoes}
use Rattle.avr_unit_model.proofs.BitLemmas.{bit_written}
use Rattle.avr_twi.proofs.HalvesLemmas.{Ends, Wrote, holds, follows, first_half, with_control}
use Rattle.avr_twi.proofs.ActionLaw.{some, stands, On, on_to, ends_of, same_cycles, rebased, is_done, twi_start, twi_stop, twi_stop_start}

-- the packet at its bit i, with what was read so far
abbrev at_bit : Kind → ℕ → Bool → ℕ → ℕ → Packet
at_bit kind twdr twea i r = record { kind = kind; byte = (packet kind twdr twea).byte; acknowledge = (packet kind twdr twea).acknowledge; read = r; place = i }

packet_is : (kind : Kind) (twdr : ℕ) (twea : Bool) → packet kind twdr twea ≡ at_bit kind twdr twea 0 0
packet_is SlaW twdr twea = refl
packet_is SlaR twdr twea = refl
packet_is DataOut twdr twea = refl
packet_is DataIn twdr twea = refl

all_ones : (i : ℕ) → is_set 0xFF (7 - i) ≡ true
all_ones i = ap (λ (y : ℕ). y == 1) (bit_at_ones 8 (7 - i) (omega arith))

bit_is : (kind : Kind) (twdr : ℕ) (twea : Bool) (i r : ℕ) → bit_of (at_bit kind twdr twea i r) ≡ line_bit kind twdr twea i
bit_is SlaW twdr twea i r = refl
bit_is SlaR twdr twea i r = refl
bit_is DataOut twdr twea i r = refl
bit_is DataIn twdr twea i r = ap (λ (b : Bool). if i == 8 then not twea else b) (all_ones i)

sent_is : (kind : Kind) (i : ℕ) → is_sent_of kind i ≡ sends kind i
sent_is SlaW i = refl
sent_is SlaR i = refl
sent_is DataOut i = refl
sent_is DataIn i = refl

apart : (i n : ℕ) → i < n → n < 8 → (7 - i) ≢ (7 - n)
apart i n h l e = omega (arith, h, l, e)

module _ (acts : ℕ → Act) (levels : ℕ → List Level) (u v : Twi) (t : ℕ) (kind : Kind) (twdr : ℕ) (twea : Bool) where
  abbrev at : ℕ → Twi
  at n = state twi acts levels v t n

  abbrev done : ℕ → Twi
  done n = stepping twi acts levels v t n

  abbrev h : ℕ
  h = half_period u

  -- the last cycle of bit i
  abbrev until : ℕ → ℕ
  until i = (i + 1) * (2 * h)

  abbrev reads : ℕ → Bool
  reads i = data_reads acts levels u v t (until i)

  -- whether another master sends a 0 where this one sends a 1
  abbrev is_lost : ℕ → Bool
  is_lost i = loses acts levels u v t kind twdr twea i

  -- what was read of the byte before bit i
  unfoldable came : ℕ → ℕ
  came zero = 0
  came (suc i) = with_bit (came i) (7 - i) (reads i)

  abbrev bit : ℕ → Packet
  bit i = at_bit kind twdr twea i (came i)

  lost_is : (i : ℕ) → (is_sent (bit i) && (bit_of (bit i) && not (reads i))) ≡ is_lost i
  lost_is i = ap (λ (b : Bool). b && (bit_of (bit i) && not (reads i))) (sent_is kind i) ∙ ap (λ (b : Bool). sends kind i && (b && not (reads i))) (bit_is kind twdr twea i (came i))

  came_bits : (n : ℕ) → n ≤ 8 → (i : ℕ) → i < n → is_set (came n) (7 - i) ≡ reads i
  unfolding came
  came_bits zero few i less = absurd (omega (arith, less))
  came_bits (suc n) few i less = elim (cases_lt i n) [
    | inl before_it ↦ bit_keeps (came n) (7 - n) (7 - i) (reads n) (apart i n before_it few) ∙ came_bits n (omega (arith, few)) i before_it
    | inr last ↦
        let same : n ≡ i = omega (arith, less, last) in
        subst (λ (j : ℕ). is_set (with_bit (came n) (7 - n) (reads n)) (7 - j) ≡ reads j) same (bit_written (came n) (7 - n) (reads n))
  ]

  -- TWEN is set for k bits, and the bus is kept up to the last of them
  module _ (k : ℕ) (few : k ≤ 9) (on : On acts levels u v t (k * (2 * h))) (begins : stands acts levels u v t (BitLow (packet kind twdr twea)) 0 false)
      (keeps : (j : ℕ) → suc j < k → is_lost j ≡ false) where
    abbrev base : ℕ → ℕ
    base i = i * (2 * h)

    row : (i : ℕ) → base (suc i) ≡ base i + h + h
    row i = let e = suc-mul i (2 * h) in omega (arith, e)

    until_is : (i : ℕ) → base i + h + h ≡ until i
    until_is i = let one_more : i + 1 ≡ suc i = omega arith in sym (ap (λ (j : ℕ). j * (2 * h)) one_more ∙ row i)

    on_high : (i : ℕ) → i < k → On acts levels u v t (base i + h + h)
    on_high i less = subst (On acts levels u v t) (row i) (on_to acts levels u v t (k * (2 * h)) (base (suc i)) (mul-le-mul_right (2 * h) less) on)

    on_low : (i : ℕ) → i < k → On acts levels u v t (base i + h)
    on_low i less = on_to acts levels u v t (base i + h + h) (base i + h) (omega arith) (on_high i less)

    module _ (i : ℕ) (less : i < k) (starts : stands acts levels u v t (BitLow (bit i)) (base i) false) where
      high_begins : stands acts levels u v t (BitHigh (bit i)) (base i + h) true
      high_begins = follows acts levels u v t (BitLow (bit i)) h (base i) false (some acts levels u v t) (on_low i less) starts (BitHigh (bit i)) h
          (ends_of acts levels u v t (BitLow (bit i)) (base i) false (on_low i less) starts).new

      abbrev final : Ends acts levels u v t (BitHigh (bit i)) h (base i + h) true (some acts levels u v t) (on_high i less) high_begins
      final = ends_of acts levels u v t (BitHigh (bit i)) (base i + h) true (on_high i less) high_begins

      -- what the last cycle leaves
      bit_ends : (at (suc (base i + h + h))).master ≡ bit_over (done (base i + h + h)).master (bit i) h (t + (base i + h + h)) (reads i)
      bit_ends = final.new ∙ ap (λ (c : ℕ). bit_over (done (base i + h + h)).master (bit i) h (t + (base i + h + h)) (sda (levels (t + c)))) (until_is i)

      kept_bit : is_lost i ≡ false → (at (suc (base i + h + h))).master ≡
          (if i == 8 then ended (record ((done (base i + h + h)).master) { twdr = data_after (bit i) (done (base i + h + h)).master.twdr }) (answered kind (reads i))
          else going (done (base i + h + h)).master (BitLow (at_bit kind twdr twea (i + 1) (with_bit (came i) (7 - i) (reads i)))) h (t + (base i + h + h)))
      kept_bit none = bit_ends ∙ cond-false (is_sent (bit i) && (bit_of (bit i) && not (reads i))) _ _ (lost_is i ∙ none)

      lost_bit : is_lost i ≡ true → (at (suc (base i + h + h))).master ≡ lost (done (base i + h + h)).master (bit i)
      lost_bit yes_lost = bit_ends ∙ cond-true (is_sent (bit i) && (bit_of (bit i) && not (reads i))) _ _ (lost_is i ∙ yes_lost)

      low_so : Holds acts levels u v t (base i) (base i + h) (line_bit kind twdr twea i) false
      low_so = subst (λ (b : Bool). Holds acts levels u v t (base i) (base i + h) b false) (bit_is kind twdr twea i (came i))
          (holds acts levels u v t (BitLow (bit i)) h (base i) false (some acts levels u v t) (on_low i less) starts)

      high_so : Holds acts levels u v t (base i + h) (until i) (line_bit kind twdr twea i) true
      high_so = subst (λ (b : Bool). Holds acts levels u v t (base i + h) (until i) b true) (bit_is kind twdr twea i (came i))
          (same_cycles acts levels u v t (base i + h) (base i + h + h) (base i + h) (until i) (bit_of (bit i)) true refl (until_is i)
          (holds acts levels u v t (BitHigh (bit i)) h (base i + h) true (some acts levels u v t) (on_high i less) high_begins))

    bit_begins : (i : ℕ) → i < k → stands acts levels u v t (BitLow (bit i)) (base i) false
    unfolding came
    bit_begins zero less =
        let e : 0 ≡ zero * (2 * h) = omega arith in
        rebased acts levels u v t (BitLow (bit 0)) 0 (base 0) false e
        (subst (λ (p : Packet). stands acts levels u v t (BitLow p) 0 false) (packet_is kind twdr twea) begins)
    bit_begins (suc i) less =
        let early : i < k = omega (arith, less) in
        let s = bit_begins i early in
        let one_more : i + 1 ≡ suc i = omega arith in
        let went = kept_bit i early s (keeps i less) ∙ cond-false (i == 8) _ _ (ne_eqb i 8 (λ e. omega (arith, e, less, few))) in
        let next = follows acts levels u v t (BitHigh (bit i)) h (base i + h) true (some acts levels u v t) (on_high i early) (high_begins i early s)
        (BitLow (at_bit kind twdr twea (i + 1) (came (suc i)))) h went in
        rebased acts levels u v t (BitLow (bit (suc i))) (base i + h + h) (base (suc i)) false (sym (row i))
        (subst (λ (j : ℕ). stands acts levels u v t (BitLow (at_bit kind twdr twea j (came (suc i)))) (base i + h + h) false) one_more next)

    -- the answer ends the byte
    module _ (whole : k ≡ 9) (answer : is_lost 8 ≡ false) where
      eighth : 8 < k
      eighth = omega (arith, whole)

      abbrev end : ℕ
      end = base 8 + h + h

      answered_so : (at (suc end)).master ≡ ended (record ((done end).master) { twdr = data_after (bit 8) (done end).master.twdr }) (answered kind (reads 8))
      answered_so = kept_bit 8 eighth (bit_begins 8 eighth) answer

      end_is : suc end ≡ until 8 + 1
      end_is = let e = until_is 8 in omega (arith, e)

      byte_so : IsByte acts levels u v t kind twdr twea
      byte_so = record {
        low = λ i less. let in_k : i < k = omega (arith, less, whole) in low_so i in_k (bit_begins i in_k);
        high = λ i less. let in_k : i < k = omega (arith, less, whole) in high_so i in_k (bit_begins i in_k);
        done = subst (λ (n : ℕ). IsDone acts levels u v t (code (answered kind (reads 8))) (n + 1)) (until_is 8)
            (is_done acts levels u v t end (record ((done end).master) { twdr = data_after (bit 8) (done end).master.twdr }) (answered kind (reads 8)) (final 8 eighth (bit_begins 8 eighth)).on answered_so);
        byte = λ incoming i less.
            ap (λ (n : ℕ). is_set (at n).master.twdr (7 - i)) (sym end_is)
            ∙ ap (λ (m : Master). is_set m.twdr (7 - i)) answered_so
            ∙ ap (λ (c : Kind). is_set (data_of c (done end).master.twdr (came 8)) (7 - i)) incoming
            ∙ came_bits 8 (omega arith) i less;
      }

  lost_so : (i : ℕ) → i < 9 → On acts levels u v t ((i + 1) * (2 * h)) → stands acts levels u v t (BitLow (packet kind twdr twea)) 0 false →
      ((j : ℕ) → j < i → is_lost j ≡ false) → is_lost i ≡ true → IsLost acts levels u v t i
  lost_so i less on begins keeps gone =
      let few : i + 1 ≤ 9 = omega (arith, less) in
      let kept : (j : ℕ) → suc j < i + 1 → is_lost j ≡ false = λ j before_it. keeps j (omega (arith, before_it)) in
      let in_k : i < i + 1 = omega arith in
      let s = bit_begins (i + 1) few on begins kept i in_k in
      let e = final (i + 1) few on begins kept i in_k s in
      let until_so = until_is (i + 1) few on begins kept i in
      let end_is : until i + 1 ≡ suc (i * (2 * h) + h + h) = omega (arith, until_so) in
      let went = ap (λ (n : ℕ). (at n).master) end_is ∙ lost_bit (i + 1) few on begins kept i in_k s gone in
      record {
        twint = ap (λ (m : Master). m.twint) went;
        twsr = ap (λ (m : Master). code m.status) went;
        lines = record {
          data_pin = ap (λ (m : Master). if is_set m.twcr 2 then open_drain m.sda else untouched) went ∙ cond-true _ (open_drain true) untouched e.on;
          clock_pin = ap (λ (m : Master). if is_set m.twcr 2 then open_drain m.scl else untouched) went ∙ cond-true _ (open_drain true) untouched e.on;
        };
        over = ap (λ (m : Master). m.action) went;
      }

-- ---- the byte that the status asks for

module _ (acts : ℕ → Act) (levels : ℕ → List Level) (u v : Twi) (t : ℕ) (kind : Kind) (x : ℕ) (twsta : is_set x 5 ≡ false) (twsto : is_set x 4 ≡ false)
    (asks : wanted u.master.status u.master.twdr ≡ Some kind)
    (wrote : Wrote acts levels u v t x) where
  abbrev width : ℕ
  width = 2 * half_period u

  byte_begins : (cycles : ℕ) → IsBegun acts levels u v t x cycles → stands acts levels u v t (BitLow (packet kind u.master.twdr (is_set x 6))) 0 false
  byte_begins cycles is =
      let m = with_control u.master x in
      first_half acts levels u v t x cycles wrote is (BitLow (packet kind u.master.twdr (is_set x 6)))
      (cond-false (is_set x 4) (going m (StopLow (is_set x 5)) (half_period u) t) _ twsto
      ∙ cond-false (is_set x 5) (going m (StartRelease (not m.scl)) (half_period u) t) _ twsta
      ∙ ap (λ (o : Option Kind). sent m o (half_period u) t) asks)

  pub twi_byte : IsBegun acts levels u v t x (9 * width) → ((i : ℕ) → i < 9 → loses acts levels u v t kind u.master.twdr (is_set x 6) i ≡ false) → IsByte acts levels u v t kind u.master.twdr (is_set x 6)
  twi_byte is keeps =
      byte_so acts levels u v t kind u.master.twdr (is_set x 6) 9 (omega arith) is.enabled (byte_begins (9 * width) is) (λ j less. keeps j (omega (arith, less))) refl (keeps 8 (omega arith))

  pub twi_loss : (i : ℕ) → i < 9 → IsBegun acts levels u v t x ((i + 1) * width) → ((j : ℕ) → j < i → loses acts levels u v t kind u.master.twdr (is_set x 6) j ≡ false) →
      loses acts levels u v t kind u.master.twdr (is_set x 6) i ≡ true → IsLost acts levels u v t i
  twi_loss i less is keeps gone =
      lost_so acts levels u v t kind u.master.twdr (is_set x 6) i less is.enabled (byte_begins ((i + 1) * width) is) keeps gone

pub twi_does : (u : Twi) (t x : ℕ) → MasterDoes u (with_register u t TWCR x) t x
twi_does u t x = record {
  start = λ acts levels r is twsta twsto bus. twi_start acts levels u (with_register u t TWCR x) t x r refl is twsta twsto bus;
  byte = λ acts levels kind twsta twsto asks is keeps. twi_byte acts levels u (with_register u t TWCR x) t kind x twsta twsto asks refl is keeps;
  loss = λ acts levels kind twsta twsto asks i less is keeps gone. twi_loss acts levels u (with_register u t TWCR x) t kind x twsta twsto asks refl i less is keeps gone;
  stop = λ acts levels is twsto. twi_stop acts levels u (with_register u t TWCR x) t x refl is twsto;
  stop_start = λ acts levels r is twsto twsta bus. twi_stop_start acts levels u (with_register u t TWCR x) t x r refl is twsto twsta bus;
}
