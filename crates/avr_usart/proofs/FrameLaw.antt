-- A frame that the USART sends, and the one that follows at once.
use Rattle.std.proofs.Common.{◌≡◌, ℕ, zero, suc, ◌+◌, ◌-◌, ◌*◌, ◌%◌, ◌<◌, ◌≤◌, ◌∙◌, inl, inr, List, Bool, true, false, Option, None, Some, refl, ap, sym, subst, arith}
use Rattle.std.specs.Prelude.{◌==◌, ◌&&◌, ◌||◌, ◌^◌, not, nat_lt, if◌then◌else◌, is_some}
use Rattle.std.proofs.Math.Nat.{suc-mul, mul-le-mul_right}
use Rattle.std.proofs.lemmas.Bool.{and_left, and_from, cases_lt, eqb-true, cond-true, cond-false, eq-eqb, ne_eqb, lt-ltb, le-ltb, both_ways}
use Rattle.sim_base.specs.declared.signal.Level.{Level}
use Rattle.avr_unit.specs.Bits.{is_set, one, with_bit}
use Rattle.avr_unit.specs.Pad.{untouched}
use Rattle.avr_unit.specs.declared.pad.Pad.{Pad}
use Rattle.avr_unit.specs.UnitMachine.{at_register}
use Rattle.avr_usart.specs.declared.format.Format.{Format}
use Rattle.avr_usart.specs.declared.format.Parity.{Parity}
use Rattle.avr_usart.specs.declared.format.Parity.TheVariants.{Disabled, Even, Odd}
use Rattle.avr_usart.specs.declared.transmitter.Frame.{Frame}
use Rattle.avr_usart.specs.declared.transmitter.Transmitter.{Transmitter}
use Rattle.avr_usart.specs.declared.registers.Register.{Register}
use Rattle.avr_usart.specs.declared.registers.Register.TheVariants.{UCSR0A, UCSR0B, UCSR0C, UBRR0L, UBRR0H, UDR0}
use Rattle.avr_usart.specs.Registers.{register_at}
use Rattle.avr_usart.specs.Format.{frame_bits, has_parity, parity_bit, frame_bit}
use Rattle.avr_usart.specs.Transmitter.{begun, loaded, frame_over, is_last, bit_over, transmitted, emitted, line, txd}
use Rattle.avr_usart.specs.Usart.{Usart, usart, txen, format_of, after_read, with_register, kept}
use Rattle.avr_unit_model.specs.Life.{Act, Nothing, Read, Write, WriteBit, Enter, acted, state, stepping}
use Rattle.avr_usart.specs.UsartFrame.{txd_is, IsLoaded, IsSent, SendsFrame, last, ending}

-- ---- what the processor does to the transmitter while a frame is on the way: at most it fills the buffer and clears TXC

record IsKept (old new : Transmitter) (f : Frame) : Type 0 where
  frame : new.frame ≡ Some f
  clear : old.txc ≡ false → new.txc ≡ false

same : (s : Transmitter) (f : Frame) → s.frame ≡ Some f → IsKept s s f
same s f e = record { frame = e; clear = λ none. none }

kept_read : (v : Usart) (o : Option Register) (f : Frame) → v.transmitter.frame ≡ Some f → IsKept v.transmitter (at_register o v (after_read v)).transmitter f
kept_read v None f e = same v.transmitter f e
kept_read v (Some UCSR0A) f e = same v.transmitter f e
kept_read v (Some UCSR0B) f e = same v.transmitter f e
kept_read v (Some UCSR0C) f e = same v.transmitter f e
kept_read v (Some UBRR0L) f e = same v.transmitter f e
kept_read v (Some UBRR0H) f e = same v.transmitter f e
kept_read v (Some UDR0) f e = same v.transmitter f e

kept_load : (s : Transmitter) (o : Option Frame) (on : Bool) (format : Format) (t x : ℕ) (f : Frame) → s.frame ≡ o → o ≡ Some f → IsKept s (loaded s o on format t x) f
kept_load s None on format t x f e h = absurd (cc)
kept_load s (Some g) on format t x f e h = record { frame = e ∙ h; clear = λ none. none }

kept_write : (v : Usart) (t : ℕ) (o : Option Register) (x : Register → ℕ) (f : Frame) → v.transmitter.frame ≡ Some f →
    IsKept v.transmitter (at_register o v (λ r. with_register v t r (x r))).transmitter f
kept_write v t None x f e = same v.transmitter f e
kept_write v t (Some UCSR0A) x f e = record { frame = e; clear = λ none. and_left v.transmitter.txc (not (is_set (x UCSR0A) 6)) none }
kept_write v t (Some UCSR0B) x f e = same v.transmitter f e
kept_write v t (Some UCSR0C) x f e = same v.transmitter f e
kept_write v t (Some UBRR0L) x f e = same v.transmitter f e
kept_write v t (Some UBRR0H) x f e = same v.transmitter f e
kept_write v t (Some UDR0) x f e = kept_load v.transmitter v.transmitter.frame (txen v) (format_of v) t (x UDR0) f refl e

kept_act : (v : Usart) (t : ℕ) (a : Act) (f : Frame) → v.transmitter.frame ≡ Some f → IsKept v.transmitter (acted usart v t a).transmitter f
kept_act v t Nothing f e = same v.transmitter f e
kept_act v t (Read a) f e = kept_read v (register_at a) f e
kept_act v t (Write a x) f e = kept_write v t (register_at a) (λ r. x) f e
kept_act v t (WriteBit a k b) f e = kept_write v t (register_at a) (λ r. with_bit (kept v r) k b) f e
kept_act v t (Enter w) f e = record { frame = e; clear = λ none. and_left v.transmitter.txc (not (w == 20)) none }

-- ---- which bit is on the line

-- bit k of a frame
data_bit : (f : Format) (y i : ℕ) → i < f.size → frame_bit f y (i + 1) ≡ is_set y i
data_bit f y i less =
    let here : i + 1 - 1 ≡ i = omega arith in
    cond-false (i + 1 == 0) false _ (ne_eqb (i + 1) 0 (λ e. omega (arith, e)))
    ∙ cond-true (nat_lt (i + 1) (f.size + 1)) (is_set y (i + 1 - 1)) _ (lt-ltb (i + 1) (f.size + 1) (omega (arith, less)))
    ∙ ap (is_set y) here

after_data : (f : Format) (y k : ℕ) → f.size < k → frame_bit f y k ≡ (if k == f.size + 1 then parity_bit f.parity y else true)
after_data f y k more =
    cond-false (k == 0) false _ (ne_eqb k 0 (λ e. omega (arith, e, more)))
    ∙ cond-false (nat_lt k (f.size + 1)) (is_set y (k - 1)) _ (le-ltb k (f.size + 1) (omega (arith, more)))

parity_there : (f : Format) (y : ℕ) → frame_bit f y (f.size + 1) ≡ parity_bit f.parity y
parity_there f y = after_data f y (f.size + 1) (omega arith) ∙ cond-true (f.size + 1 == f.size + 1) (parity_bit f.parity y) true (eq-eqb (f.size + 1) (f.size + 1) refl)

stop_there : (f : Format) (y k : ℕ) (p : Parity) → f.parity ≡ p → f.size + one (has_parity f.parity) < k → frame_bit f y k ≡ true
stop_there f y k p e more = after_data f y k (omega (arith, more)) ∙ by p (k == f.size + 1) refl e
  where
    with_one : (q : Parity) → f.parity ≡ q → has_parity q ≡ true → f.size + 1 < k
    with_one q same has =
        let n : one (has_parity f.parity) ≡ 1 = ap (λ (r : Parity). one (has_parity r)) same ∙ ap one has in
        omega (arith, more, n)

    by : (q : Parity) (b : Bool) → (k == f.size + 1) ≡ b → f.parity ≡ q → (if b then parity_bit f.parity y else true) ≡ true
    by q false is same = refl
    by Disabled true is same = ap (λ (r : Parity). parity_bit r y) same
    by Even true is same = let m = with_one Even same refl in absurd (both_ways (k == f.size + 1) (ne_eqb k (f.size + 1) (λ e. omega (arith, e, m))) is)
    by Odd true is same = let m = with_one Odd same refl in absurd (both_ways (k == f.size + 1) (ne_eqb k (f.size + 1) (λ e. omega (arith, e, m))) is)

pad_of : (s : Transmitter) (on : Bool) (f : Frame) → s.frame ≡ Some f → txd s on ≡ txd_is (frame_bit f.format f.byte f.place)
pad_of s on f e = ap (λ (o : Option Frame). shown o on) e ∙ by on
  where
    shown : Option Frame → Bool → Pad
    shown o b = let is_on = b || is_some o in record untouched { ddoe = is_on; ddov = is_on; pvoe = is_on; pvov = is_on && line o }

    by : (b : Bool) → shown (Some f) b ≡ txd_is (frame_bit f.format f.byte f.place)
    by true = refl
    by false = refl

-- ---- a frame on the way

module _ (acts : ℕ → Act) (levels : ℕ → List Level) (u : Usart) (t : ℕ) (format : Format) (y from : ℕ) (positive : 1 ≤ format.bit) where
  abbrev at : ℕ → Usart
  at n = state usart acts levels u t n

  -- bit k, which takes its cycles from t + b + 1 on
  abbrev bit : ℕ → ℕ → Frame
  bit k b = record { format = format; byte = y; place = k; end = t + b + format.bit }

  record Stands (f : Frame) (n : ℕ) : Type 0 where
    frame : (at n).transmitter.frame ≡ Some f
    clear : (at (from + 1)).transmitter.txc ≡ false → (at n).transmitter.txc ≡ false

  module _ (f : Frame) (n : ℕ) (s : Stands f n) where
    abbrev v : Usart
    v = stepping usart acts levels u t n

    keeps : IsKept (at n).transmitter v.transmitter f
    keeps = kept_act (at n) (t + n) (acts (t + n)) f s.frame

    steps : (at (suc n)).transmitter ≡ (if f.end == t + n then bit_over v.transmitter f (format_of v) (t + n) else v.transmitter)
    unfolding state
    steps = ap (λ (o : Option Frame). transmitted v.transmitter o (format_of v) (t + n)) keeps.frame

    -- nothing changes before the end of a bit
    waits : t + n < f.end → Stands f (suc n)
    waits soon =
        let same_one : (at (suc n)).transmitter ≡ v.transmitter = steps ∙ cond-false (f.end == t + n) (bit_over v.transmitter f (format_of v) (t + n)) v.transmitter (ne_eqb f.end (t + n) (λ e. omega (arith, e, soon))) in
        record {
          frame = ap (λ (x : Transmitter). x.frame) same_one ∙ keeps.frame;
          clear = λ none. ap (λ (x : Transmitter). x.txc) same_one ∙ keeps.clear (s.clear none);
        }

    ends_now : f.end ≡ t + n → (at (suc n)).transmitter ≡ bit_over v.transmitter f (format_of v) (t + n)
    ends_now e = steps ∙ cond-true (f.end == t + n) (bit_over v.transmitter f (format_of v) (t + n)) v.transmitter (eq-eqb f.end (t + n) e)

  stays : (f : Frame) (k n m : ℕ) → m ≡ n + k → t + m ≤ f.end → Stands f n → Stands f m
  stays f zero n m e soon s = let here : n ≡ m = omega (arith, e) in subst (Stands f) here s
  stays f (suc k) n m e soon s =
      let next : suc (n + k) ≡ m = omega (arith, e) in
      subst (Stands f) next (waits f (n + k) (stays f k n (n + k) refl (omega (arith, e, soon)) s) (omega (arith, e, soon)))

  module _ (k b : ℕ) (begins : Stands (bit k b) (suc b)) where
    in_bit : (n : ℕ) → b < n → n ≤ b + format.bit → Stands (bit k b) n
    in_bit n more le = stays (bit k b) (n - suc b) (suc b) n (omega (arith, more)) (omega (arith, le)) begins

    at_end : Stands (bit k b) (b + format.bit)
    at_end = in_bit (b + format.bit) (omega (arith, positive)) (omega arith)

    over : (at (suc (b + format.bit))).transmitter ≡ bit_over (stepping usart acts levels u t (b + format.bit)).transmitter (bit k b) (format_of (stepping usart acts levels u t (b + format.bit))) (t + (b + format.bit))
    over = ends_now (bit k b) (b + format.bit) at_end (omega arith)

    next_bit : is_last (bit k b) ≡ false → Stands (bit (k + 1) (b + format.bit)) (suc (b + format.bit))
    next_bit more =
        let w = stepping usart acts levels u t (b + format.bit) in
        let went = over ∙ cond-false (is_last (bit k b)) (frame_over w.transmitter w.transmitter.buffer (format_of w) (t + (b + format.bit)))
        (record (w.transmitter) { frame = Some (bit (k + 1) (b + format.bit)) }) more in
        record {
          frame = ap (λ (x : Transmitter). x.frame) went;
          clear = λ none. ap (λ (x : Transmitter). x.txc) went ∙ (keeps (bit k b) (b + format.bit) at_end).clear (at_end.clear none);
        }

  module _ (begins : Stands (bit 0 from) (suc from)) where
    abbrev base : ℕ → ℕ
    base k = from + k * format.bit

    row : (k : ℕ) → base (suc k) ≡ base k + format.bit
    row k = let e = suc-mul k format.bit in omega (arith, e)

    bit_begins : (k : ℕ) → k < frame_bits format → Stands (bit k (base k)) (suc (base k))
    bit_begins zero less = let e : from ≡ base zero = omega arith in subst (λ (b : ℕ). Stands (bit 0 b) (suc b)) e begins
    bit_begins (suc k) less =
        let n = next_bit k (base k) (bit_begins k (omega (arith, less))) (ne_eqb (k + 1) (frame_bits format) (λ e. omega (arith, e, less))) in
        let one_more : k + 1 ≡ suc k = omega arith in
        subst (λ (j : ℕ). Stands (bit j (base (suc k))) (suc (base (suc k)))) one_more (subst (λ (b : ℕ). Stands (bit (k + 1) b) (suc b)) (sym (row k)) n)

    in_frame : (k n : ℕ) → k < frame_bits format → k * format.bit < n → n ≤ (k + 1) * format.bit → Stands (bit k (base k)) (from + n)
    in_frame k n less more le =
        let one_more : k + 1 ≡ suc k = omega arith in
        let e : (k + 1) * format.bit ≡ k * format.bit + format.bit = ap (λ (j : ℕ). j * format.bit) one_more ∙ suc-mul k format.bit in
        in_bit k (base k) (bit_begins k less) (from + n) (omega (arith, more)) (omega (arith, le, e))

    pad_at : (k n : ℕ) → k < frame_bits format → k * format.bit < n → n ≤ (k + 1) * format.bit → usart.pad (at (from + n)) 1 ≡ txd_is (frame_bit format y k)
    pad_at k n less more le = pad_of (at (from + n)).transmitter (txen (at (from + n))) (bit k (base k)) (in_frame k n less more le).frame

    -- what is there in every cycle of the frame
    record SomeBit (n : ℕ) : Type 0 where
      k : ℕ
      less : k < frame_bits format
      more : k * format.bit < n
      le : n ≤ (k + 1) * format.bit

    some_bit : (j n : ℕ) → j ≤ frame_bits format → 0 < n → n ≤ j * format.bit → SomeBit n
    some_bit zero n few some le = let none : zero * format.bit ≡ 0 = omega arith in absurd (omega (arith, some, le, none))
    some_bit (suc j) n few some le = elim (cases_lt (j * format.bit) n) [
      | inl more ↦ let one_more : suc j ≡ j + 1 = omega arith in record { k = j; less = few; more = more; le = subst (λ (i : ℕ). n ≤ i * format.bit) one_more le }
      | inr less ↦ some_bit j n (omega (arith, few)) some less
    ]

    abbrev total : ℕ
    total = frame_bits format * format.bit

    -- the byte leaves in the last cycle of the last bit alone
    silent_at : (n : ℕ) → 0 < n → n < total → usart.sends (stepping usart acts levels u t (from + n)) (t + (from + n)) ≡ None
    silent_at n some soon =
        let s = some_bit (frame_bits format) n (omega arith) some (omega (arith, soon)) in
        let f = bit s.k (base s.k) in
        let there = in_frame s.k n s.less s.more s.le in
        ap (λ (o : Option Frame). emitted o (t + (from + n))) (keeps f (from + n) there).frame
        ∙ cond-false (f.end == t + (from + n) && is_last f) (Some y) None (not_both s.k s.less (f.end == t + (from + n)) (is_last f) refl refl)
      where
        -- in its last cycle the last bit would end with the frame
        not_both : (k : ℕ) → k < frame_bits format → (a b : Bool) → (t + (from + k * format.bit) + format.bit == t + (from + n)) ≡ a → (k + 1 == frame_bits format) ≡ b → (a && b) ≡ false
        not_both k less false b is last_is = refl
        not_both k less true false is last_is = refl
        not_both k less true true is last_is =
            let one_more : k + 1 ≡ suc k = omega arith in
            let e : t + (from + k * format.bit) + format.bit ≡ t + (from + n) = eqb-true (t + (from + k * format.bit) + format.bit) (t + (from + n)) is in
            let f : suc k ≡ frame_bits format = sym one_more ∙ eqb-true (k + 1) (frame_bits format) last_is in
            let g : k * format.bit + format.bit ≡ total = sym (suc-mul k format.bit) ∙ ap (λ (j : ℕ). j * format.bit) f in
            absurd (omega (arith, e, g, soon))

    -- ---- its last bit

    abbrev final : ℕ
    final = format.size + one (has_parity format.parity) + format.stops

    count : frame_bits format ≡ suc final
    count = by format.size (one (has_parity format.parity)) format.stops
      where
        by : (a b c : ℕ) → 1 + a + b + c ≡ suc (a + b + c)
        by a b c = omega arith

    abbrev end : ℕ
    end = last acts levels u t format from

    abbrev w : Usart
    w = stepping usart acts levels u t end

    end_is : base final + format.bit ≡ end
    end_is = let e = suc-mul final format.bit in let f : total ≡ suc final * format.bit = ap (λ (j : ℕ). j * format.bit) count in omega (arith, e, f)

    is_final : is_last (bit final (base final)) ≡ true
    is_final = let one_more : final + 1 ≡ suc final = omega arith in eq-eqb (final + 1) (frame_bits format) (one_more ∙ sym count)

    final_begins : Stands (bit final (base final)) (suc (base final))
    final_begins = bit_begins final (let e = count in omega (arith, e))

    final_stands : Stands (bit final (base final)) end
    final_stands = subst (Stands (bit final (base final))) end_is (at_end final (base final) final_begins)

    final_over : (at (suc end)).transmitter ≡ frame_over w.transmitter w.transmitter.buffer (format_of w) (t + end)
    final_over =
        subst (λ (m : ℕ). (at (suc m)).transmitter ≡ bit_over (stepping usart acts levels u t m).transmitter (bit final (base final)) (format_of (stepping usart acts levels u t m)) (t + m))
        end_is (over final (base final) final_begins)
        ∙ cond-true (is_last (bit final (base final))) (frame_over w.transmitter w.transmitter.buffer (format_of w) (t + end))
        (record (w.transmitter) { frame = Some (record (bit final (base final)) { place = final + 1; end = t + end + format.bit }) }) is_final

    at_the_end : (at (end + 1)).transmitter ≡ frame_over w.transmitter w.transmitter.buffer (format_of w) (t + end)
    at_the_end = let one_more : end + 1 ≡ suc end = omega arith in ap (λ (m : ℕ). (at m).transmitter) one_more ∙ final_over

    sent_at : usart.sends w (t + end) ≡ Some y
    sent_at =
        let f = bit final (base final) in
        ap (λ (o : Option Frame). emitted o (t + end)) (keeps f end final_stands).frame
        ∙ cond-true (f.end == t + end && is_last f) (Some y) None (and_from (f.end == t + end) (is_last f)
        (eq-eqb f.end (t + end) (plain t (base final) format.bit ∙ ap (λ (j : ℕ). t + j) end_is)) is_final)
      where
        plain : (a b c : ℕ) → a + b + c ≡ a + (b + c)
        plain a b c = omega arith

    abbrev stops_at : ℕ
    stops_at = frame_bits format - format.stops

    is_sent : IsSent acts levels u t format y from
    is_sent = record {
      start = λ n some le. pad_at 0 n (let e = count in omega (arith, e)) (omega (arith, some)) (omega (arith, le));
      bits = λ i n less more le.
          let two : i + 2 ≡ i + 1 + 1 = omega arith in
          pad_at (i + 1) n (let e = count in omega (arith, e, less)) more (subst (λ (j : ℕ). n ≤ j * format.bit) two le) ∙ ap txd_is (data_bit format y i less);
      parity = λ n has more le.
          let two : format.size + 2 ≡ format.size + 1 + 1 = omega arith in
          let one_bit : one (has_parity format.parity) ≡ 1 = ap one has in
          pad_at (format.size + 1) n (let e = count in omega (arith, e, one_bit)) more (subst (λ (j : ℕ). n ≤ j * format.bit) two le) ∙ ap txd_is (parity_there format y);
      stop = λ n more le. stop_at n (some_bit (frame_bits format) n (omega arith) (omega (arith, more)) le) more;
      silent = silent_at;
      sent = sent_at;
      waits = λ n some le none. let s = some_bit (frame_bits format) n (omega arith) some le in (in_frame s.k n s.less s.more s.le).clear none;
      txc = λ empty. ap (λ (x : Transmitter). x.txc) (at_the_end ∙ ap (λ (o : Option ℕ). frame_over w.transmitter o (format_of w) (t + end)) empty);
      ends = λ empty. ap (λ (x : Transmitter). x.frame) (at_the_end ∙ ap (λ (o : Option ℕ). frame_over w.transmitter o (format_of w) (t + end)) empty);
      begins = λ z full. ap (λ (x : Transmitter). x.frame) (at_the_end ∙ ap (λ (o : Option ℕ). frame_over w.transmitter o (format_of w) (t + end)) full);
    }
      where
        -- a bit in these cycles comes after data and parity
        after_parity : (n : ℕ) (s : SomeBit n) → stops_at * format.bit < n → format.size + one (has_parity format.parity) < s.k
        after_parity n s more = elim (cases_lt (format.size + one (has_parity format.parity)) s.k) [
          | inl good ↦ good
          | inr bad ↦
              let few : s.k + 1 ≤ stops_at = let e = count in omega (arith, e, bad) in
              let m : (s.k + 1) * format.bit ≤ stops_at * format.bit = mul-le-mul_right format.bit few in
              let l = s.le in
              absurd (omega (arith, m, more, l))
        ]

        stop_at : (n : ℕ) (s : SomeBit n) → stops_at * format.bit < n → usart.pad (at (from + n)) 1 ≡ txd_is true
        stop_at n s more = pad_at s.k n s.less s.more s.le ∙ ap txd_is (stop_there format y s.k format.parity refl (after_parity n s more))

-- ---- the frame of a byte that is written, and of one that waited

bit_some : (u : Usart) → 1 ≤ (format_of u).bit
bit_some u = by (is_set u.ucsra 1) u.ubrr
  where
    by : (b : Bool) (n : ℕ) → 1 ≤ (if b then 8 else 16) * (n + 1)
    by true n = omega arith
    by false n = omega arith

module _ (acts : ℕ → Act) (levels : ℕ → List Level) (u : Usart) (t x : ℕ) (is : IsLoaded acts u t) where
  abbrev format : Format
  format = format_of u

  abbrev written : Usart
  written = with_register u t UDR0 x

  abbrev loaded_now : Transmitter
  loaded_now = record (u.transmitter) { frame = Some (begun format t x) }

  loads : written.transmitter ≡ loaded_now
  loads =
      ap (λ (o : Option Frame). loaded u.transmitter o (txen u) format t x) is.idle
      ∙ cond-true (txen u) loaded_now u.transmitter is.enabled

  here : t + 0 ≡ t
  here = omega arith

  first_cycle : (state usart acts levels written t 1).transmitter ≡ loaded_now
  unfolding state
  first_cycle =
      let nothing : acts (t + 0) ≡ Nothing = ap acts here ∙ is.nothing in
      ap (λ (a : Act). transmitted (acted usart written (t + 0) a).transmitter (acted usart written (t + 0) a).transmitter.frame (format_of (acted usart written (t + 0) a)) (t + 0)) nothing
      ∙ ap (λ (s : Transmitter). transmitted s s.frame format (t + 0)) loads
      ∙ cond-false (t + format.bit == t + 0) (bit_over loaded_now (begun format t x) format (t + 0)) loaded_now
      (ne_eqb (t + format.bit) (t + 0) (later t format.bit (bit_some u)))
    where
      later : (c k : ℕ) → 1 ≤ k → c + k ≡ c + 0 → ⊥
      later c k more e = omega (arith, more, e)

  frame_sent : IsSent acts levels written t format (x % 2 ^ format.size) 0
  frame_sent = is_sent acts levels written t format (x % 2 ^ format.size) 0 (bit_some u)
      (record { frame = ap (λ (s : Transmitter). s.frame) first_cycle ∙ ap (λ (c : ℕ). Some (begun format c x)) (sym here); clear = λ none. none })

module _ (acts : ℕ → Act) (levels : ℕ → List Level) (u : Usart) (t : ℕ) (format : Format) (y from z : ℕ) (sent : IsSent acts levels u t format y from)
    (waits : (ending acts levels u t format from).transmitter.buffer ≡ Some z) where
  abbrev now : Format
  now = format_of (ending acts levels u t format from)

  abbrev until : ℕ
  until = last acts levels u t format from

  next_sent : IsSent acts levels u t now (z % 2 ^ now.size) until
  next_sent =
      let one_more : suc until ≡ until + 1 = omega arith in
      is_sent acts levels u t now (z % 2 ^ now.size) until (bit_some (ending acts levels u t format from))
      (record { frame = ap (λ (m : ℕ). (state usart acts levels u t m).transmitter.frame) one_more ∙ sent.begins z waits; clear = λ none. ap (λ (m : ℕ). (state usart acts levels u t m).transmitter.txc) one_more ∙ none })

pub usart_sends_frame : (u : Usart) (t x : ℕ) → SendsFrame u (with_register u t UDR0 x) t x
usart_sends_frame u t x = record {
  frame = λ acts levels is. frame_sent acts levels u t x is;
  next = λ acts levels format y from z sent waits. next_sent acts levels (with_register u t UDR0 x) t format y from z sent waits;
}
