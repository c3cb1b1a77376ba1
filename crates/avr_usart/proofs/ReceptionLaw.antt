-- A frame that the USART receives, sample by sample.
use Rattle.std.proofs.Common.{◌≡◌, ℕ, zero, suc, ◌+◌, ◌-◌, ◌*◌, ◌/◌, ◌<◌, ◌≤◌, ◌∙◌, inl, inr, List, Bool, true, false, Option, None, Some, refl, ap, sym, subst, arith}
use Rattle.std.specs.Prelude.{◌==◌, ◌^◌, not, nat_lt, if◌then◌else◌}
use Rattle.std.proofs.Math.Nat.{suc-mul, mul-le-mul_right}
use Rattle.std.proofs.lemmas.Nat.{pow_below}
use Rattle.std.proofs.lemmas.Bool.{and_from, and_left, and_right, cases_lt, cond-true, cond-false, eq-eqb, ne_eqb, lt-ltb, le-ltb, both_ways}
use Rattle.sim_base.specs.declared.signal.Level.{Level}
use Rattle.avr_unit.specs.Bits.{is_set, one, with_bit}
use Rattle.avr_unit.specs.UnitMachine.{at_register}
use Rattle.avr_unit.proofs.BitLemmas.{bit_keeps}
use Rattle.avr_usart.specs.declared.format.Format.{Format}
use Rattle.avr_usart.specs.declared.receiver.Reception.{Reception}
use Rattle.avr_usart.specs.declared.receiver.Receiver.{Receiver}
use Rattle.avr_usart.specs.declared.registers.Register.{Register}
use Rattle.avr_usart.specs.declared.registers.Register.TheVariants.{UCSR0A, UCSR0B, UCSR0C, UBRR0L, UBRR0H, UDR0}
use Rattle.avr_usart.specs.Registers.{register_at}
use Rattle.avr_usart.specs.Format.{has_parity, parity_bit, is_parity}
use Rattle.avr_usart.specs.Receiver.{deaf, differ, heard, next_bit, ended, sampled, is_start, received}
use Rattle.avr_usart.specs.Usart.{Usart, usart, rxen, rxd, format_of, after_read, with_register, kept as kept_bits, stepped}
use Rattle.avr_unit_model.specs.Life.{Act, Nothing, Read, Write, WriteBit, Enter, acted, before, state}
use Rattle.avr_usart.specs.UsartReception.{at as life, done as left, format, middle, line, stop, IsFalling, TakesNothing, IsNoise, IsReceived, HearsFrame}
use Rattle.avr_unit_model.proofs.BitLemmas.{bit_written, bits_written}

-- ---- what the processor does while a frame comes in: it may take bytes from the queue, but not clear RXEN

kept_read : (v : Usart) (o : Option Register) → (at_register o v (after_read v)).receiver.reception ≡ v.receiver.reception
kept_read v None = refl
kept_read v (Some UCSR0A) = refl
kept_read v (Some UCSR0B) = refl
kept_read v (Some UCSR0C) = refl
kept_read v (Some UBRR0L) = refl
kept_read v (Some UBRR0H) = refl
kept_read v (Some UDR0) = refl

kept_write : (v : Usart) (t : ℕ) (o : Option Register) (x : Register → ℕ) →
    rxen (at_register o v (λ r. with_register v t r (x r))) ≡ true → (at_register o v (λ r. with_register v t r (x r))).receiver.reception ≡ v.receiver.reception
kept_write v t None x on = refl
kept_write v t (Some UCSR0A) x on = refl
kept_write v t (Some UCSR0B) x on = ap (λ (s : Receiver). s.reception) (cond-true (is_set (x UCSR0B) 4) v.receiver deaf on)
kept_write v t (Some UCSR0C) x on = refl
kept_write v t (Some UBRR0L) x on = refl
kept_write v t (Some UBRR0H) x on = refl
kept_write v t (Some UDR0) x on = refl

kept_act : (v : Usart) (t : ℕ) (a : Act) → rxen (acted usart v t a) ≡ true → (acted usart v t a).receiver.reception ≡ v.receiver.reception
kept_act v t Nothing on = refl
kept_act v t (Read a) on = kept_read v (register_at a)
kept_act v t (Write a x) on = kept_write v t (register_at a) (λ r. x) on
kept_act v t (WriteBit a k b) on = kept_write v t (register_at a) (λ r. with_bit (kept_bits v r) k b) on
kept_act v t (Enter w) on = refl

-- ---- one sample

-- the sample of a start bit, of bit i of the data, and of the parity
start_sample : (s : Receiver) (r : Reception) (t : ℕ) → r.place ≡ 0 → sampled s r t false ≡ record s { reception = Some (next_bit r t) }
start_sample s r t e = cond-true (r.place == 0) (record s { reception = Some (next_bit r t) }) _ (eq-eqb r.place 0 e)

noise_sample : (s : Receiver) (r : Reception) (t : ℕ) → r.place ≡ 0 → sampled s r t true ≡ record s { reception = None }
noise_sample s r t e = cond-true (r.place == 0) (record s { reception = None }) _ (eq-eqb r.place 0 e)

data_sample : (s : Receiver) (r : Reception) (t i : ℕ) (high : Bool) → r.place ≡ i + 1 → i < r.format.size →
    sampled s r t high ≡ record s { reception = Some (record (next_bit r t) { byte = with_bit r.byte i high }) }
data_sample s r t i high e less =
    let here : r.place - 1 ≡ i = omega (arith, e) in
    cond-false (r.place == 0) _ _ (ne_eqb r.place 0 (λ z. omega (arith, e, z)))
    ∙ cond-true (nat_lt r.place (r.format.size + 1)) (record s { reception = Some (record (next_bit r t) { byte = with_bit r.byte (r.place - 1) high }) }) _ (lt-ltb r.place (r.format.size + 1) (omega (arith, e, less)))
    ∙ ap (λ (k : ℕ). record s { reception = Some (record (next_bit r t) { byte = with_bit r.byte k high }) }) here

after_data : (s : Receiver) (r : Reception) (t : ℕ) (high : Bool) → r.format.size < r.place →
    sampled s r t high ≡ (if is_parity r.format r.place then record s { reception = Some (record (next_bit r t) { upe = differ high (parity_bit r.format.parity r.byte) }) } else ended s r high)
after_data s r t high more =
    cond-false (r.place == 0) _ _ (ne_eqb r.place 0 (λ z. omega (arith, more, z)))
    ∙ cond-false (nat_lt r.place (r.format.size + 1)) _ _ (le-ltb r.place (r.format.size + 1) (omega (arith, more)))

parity_sample : (s : Receiver) (r : Reception) (t : ℕ) (high : Bool) → r.place ≡ r.format.size + 1 → has_parity r.format.parity ≡ true →
    sampled s r t high ≡ record s { reception = Some (record (next_bit r t) { upe = differ high (parity_bit r.format.parity r.byte) }) }
parity_sample s r t high e there =
    after_data s r t high (omega (arith, e))
    ∙ cond-true (is_parity r.format r.place) _ (ended s r high) (and_from (has_parity r.format.parity) (r.place == r.format.size + 1) there (eq-eqb r.place (r.format.size + 1) e))

-- ---- a frame on the way

module _ (acts : ℕ → Act) (levels : ℕ → List Level) (u v : Usart) (t : ℕ) where
  abbrev at : ℕ → Usart
  at n = life acts levels u v t n

  abbrev done : ℕ → Usart
  done n = left acts levels u v t n

  record Stands (r : Reception) (n : ℕ) : Type 0 where
    reception : (at n).receiver.reception ≡ Some r

  kept : (n : ℕ) → rxen (done (suc n)) ≡ true → (done (suc n)).receiver.reception ≡ (at (suc n)).receiver.reception
  kept n on = kept_act (at (suc n)) (suc t + n) (acts (suc t + n)) on

  -- what the step of cycle t + suc n makes of the receiver
  module _ (r : Reception) (n : ℕ) (enabled : rxen (done (suc n)) ≡ true) (s : Stands r (suc n)) where
    steps : (at (suc (suc n))).receiver ≡ (if r.sample == t + suc n then sampled (done (suc n)).receiver r (t + suc n) (rxd (levels (t + suc n))) else (done (suc n)).receiver)
    unfolding state
    steps =
        let same_cycle : suc t + n ≡ t + suc n = omega arith in
        ap (λ (o : Option Reception). received (done (suc n)).receiver o (rxen (done (suc n))) (format_of (done (suc n))) (suc t + n) (rxd (before levels (suc t + n))) (rxd (levels (suc t + n))))
        (kept n enabled ∙ s.reception)
        ∙ ap (λ (c : ℕ). if r.sample == c then sampled (done (suc n)).receiver r c (rxd (levels c)) else (done (suc n)).receiver) same_cycle

    -- nothing changes before the next sample
    waits : t + suc n < r.sample → (at (suc (suc n))).receiver ≡ (done (suc n)).receiver
    waits soon = steps ∙ cond-false (r.sample == t + suc n) _ _ (ne_eqb r.sample (t + suc n) (λ e. omega (arith, e, soon)))

    samples : r.sample ≡ t + suc n → (at (suc (suc n))).receiver ≡ sampled (done (suc n)).receiver r (t + suc n) (rxd (levels (t + suc n)))
    samples e = steps ∙ cond-true (r.sample == t + suc n) _ _ (eq-eqb r.sample (t + suc n) e)

    still : (at (suc (suc n))).receiver ≡ (done (suc n)).receiver → Stands r (suc (suc n))
    still same = record { reception = ap (λ (x : Receiver). x.reception) same ∙ kept n enabled ∙ s.reception }

  -- a step that changes at most the reception
  takes_nothing : (n : ℕ) (o : Option Reception) → (at (suc n)).receiver ≡ record ((done n).receiver) { reception = o } → TakesNothing acts levels u v t n
  takes_nothing n o e =
      let one_more : n + 1 ≡ suc n = omega arith in
      record {
        queue = ap (λ (m : ℕ). (at m).receiver.queue) one_more ∙ ap (λ (x : Receiver). x.queue) e;
        dor = ap (λ (m : ℕ). (at m).receiver.dor) one_more ∙ ap (λ (x : Receiver). x.dor) e;
      }

  same_receiver : (n : ℕ) → (at (suc n)).receiver ≡ (done n).receiver → TakesNothing acts levels u v t n
  same_receiver n e = takes_nothing n (done n).receiver.reception e

  goes : (n : ℕ) (r z : Reception) → (at (suc n)).receiver ≡ record ((done n).receiver) { reception = Some r } → r ≡ z → Stands z (suc n)
  goes n r z e same = record { reception = ap (λ (x : Receiver). x.reception) e ∙ ap (λ (q : Reception). Some q) same }

  -- after cycle t + from, up to the next sample, which is in cycle t + to
  module _ (r : Reception) (from to : ℕ) (sample : r.sample ≡ t + to) (enabled : (n : ℕ) → n ≤ to → rxen (done n) ≡ true) (begins : Stands r (suc from)) where
    stands : (k n : ℕ) → n ≡ suc (from + k) → n ≤ to → Stands r n
    stands zero n e le = let here : suc from ≡ n = omega (arith, e) in subst (Stands r) here begins
    stands (suc k) n e le =
        let next : suc (suc (from + k)) ≡ n = omega (arith, e) in
        let on = enabled (suc (from + k)) (omega (arith, e, le)) in
        let s = stands k (suc (from + k)) refl (omega (arith, e, le)) in
        subst (Stands r) next (still r (from + k) on s (waits r (from + k) on s (omega (arith, e, le, sample))))

    stands_at : (n : ℕ) → from < n → n ≤ to → Stands r n
    stands_at n more le = stands (n - suc from) n (omega (arith, more)) le

    quiet : (n : ℕ) → from < n → n < to → TakesNothing acts levels u v t n
    quiet zero more less = absurd (omega (arith, more))
    quiet (suc n) more less = same_receiver (suc n) (waits r n (enabled (suc n) (omega (arith, less))) (stands_at (suc n) more (omega (arith, less))) (omega (arith, less, sample)))

    samples_then : from < to → (at (suc to)).receiver ≡ sampled (done to).receiver r (t + to) (rxd (levels (t + to)))
    samples_then some = by to refl
      where
        by : (m : ℕ) → m ≡ to → (at (suc m)).receiver ≡ sampled (done m).receiver r (t + m) (rxd (levels (t + m)))
        by zero e = absurd (omega (arith, e, some))
        by (suc m) e = samples r m (enabled (suc m) (omega (arith, e))) (stands_at (suc m) (omega (arith, e, some)) (omega (arith, e))) (sample ∙ ap (λ (c : ℕ). t + c) (sym e))

  abbrev f : Format
  f = format acts levels u v t

  abbrev mid : ℕ → ℕ
  mid k = middle acts levels u v t k

  abbrev heard_at : ℕ → Bool
  heard_at k = line acts levels u v t k

  -- bit k is sampled next
  abbrev bit : ℕ → ℕ → Bool → Reception
  bit k x e = record { format = f; place = k; sample = t + mid k; byte = x; upe = e }

  mid_next : (k : ℕ) → mid (k + 1) ≡ mid k + f.bit
  mid_next k =
      let one_more : k + 1 ≡ suc k = omega arith in
      let e : (k + 1) * f.bit ≡ k * f.bit + f.bit = ap (λ (j : ℕ). j * f.bit) one_more ∙ suc-mul k f.bit in
      plain (k * f.bit) f.bit (f.bit / 2) ((k + 1) * f.bit) e
    where
      plain : (a b c d : ℕ) → d ≡ a + b → d + c ≡ a + c + b
      plain a b c d e = omega (arith, e)

  -- a sample that makes the next bit be sampled a bit later
  next_is : (k x : ℕ) (e : Bool) → (record { format = f; place = k + 1; sample = t + mid k + f.bit; byte = x; upe = e }) ≡ bit (k + 1) x e
  next_is k x e = ap at_cycle (plain t (mid k) f.bit (mid (k + 1)) (mid_next k))
    where
      at_cycle : ℕ → Reception
      at_cycle s = record { format = f; place = k + 1; sample = s; byte = x; upe = e }

      plain : (a b c d : ℕ) → d ≡ b + c → a + b + c ≡ a + d
      plain a b c d e = omega (arith, e)

  some_bit : (1 ≤ f.bit) × (1 ≤ f.bit / 2)
  some_bit = by (is_set u.ucsra 1) u.ubrr
    where
      by : (b : Bool) (n : ℕ) → (1 ≤ (if b then 8 else 16) * (n + 1)) × (1 ≤ (if b then 8 else 16) * (n + 1) / 2)
      by true n = (omega arith, omega arith)
      by false n = (omega arith, omega arith)

  mid_grows : (j k : ℕ) → j ≤ k → mid j ≤ mid k
  mid_grows j k le = let m = mul-le-mul_right f.bit le in omega (arith, m)

  -- the bits that came in
  unfoldable came : ℕ → ℕ
  came zero = 0
  came (suc i) = with_bit (came i) i (heard_at (i + 1))

  came_bits : (n i : ℕ) → i < n → is_set (came n) i ≡ heard_at (i + 1)
  unfolding came
  came_bits zero i less = absurd (omega (arith, less))
  came_bits (suc n) i less = elim (cases_lt i n) [
    | inl before_it ↦ bit_keeps (came n) n i (heard_at (n + 1)) (λ e. omega (arith, before_it, e)) ∙ came_bits n i before_it
    | inr last ↦
        let same : n ≡ i = omega (arith, less, last) in
        subst (λ (j : ℕ). is_set (with_bit (came n) n (heard_at (n + 1))) j ≡ heard_at (j + 1)) same (bit_written (came n) n (heard_at (n + 1)))
  ]

  came_below : (n : ℕ) → came n < 2 ^ n
  unfolding came
  came_below zero = omega arith
  came_below (suc n) =
      let one_more : n < suc n = omega arith in
      let less = came_below n in
      let more = pow_below n (suc n) one_more in
      bits_written (suc n) (came n) n (heard_at (n + 1)) (omega (arith, less, more)) one_more

  -- ---- from the falling edge on

  module _ (from to : List Level) (steps_so : v.receiver ≡ received u.receiver u.receiver.reception (rxen u) f t (rxd from) (rxd to))
      (cycles : ℕ) (falls : IsFalling acts levels u v t from to cycles) where
    begins : (at 1).receiver ≡ record (u.receiver) { reception = Some (heard f t) }
    unfolding state
    begins =
        steps_so
        ∙ ap (λ (o : Option Reception). received u.receiver o (rxen u) f t (rxd from) (rxd to)) falls.idle
        ∙ cond-true (is_start (rxen u) (rxd from) (rxd to)) (record (u.receiver) { reception = Some (heard f t) }) u.receiver
        (and_from _ _ (falls.enabled 0 (omega arith)) (and_from _ _ falls.high (ap not falls.low)))

    heard_is : heard f t ≡ bit 0 0 false
    heard_is = ap at_cycle (plain t f.bit (f.bit / 2))
      where
        at_cycle : ℕ → Reception
        at_cycle s = record { format = f; place = 0; sample = s; byte = 0; upe = false }

        plain : (a b c : ℕ) → a + c ≡ a + (0 * b + c)
        plain a b c = omega arith

    start_stands : Stands (bit 0 0 false) 1
    start_stands = goes 0 (heard f t) (bit 0 0 false) begins heard_is

    some : 1 ≤ mid 0
    some = let s = some_bit.1 in omega (arith, s)

    module _ (few : mid 0 ≤ cycles) where
      enabled_first : (n : ℕ) → n ≤ mid 0 → rxen (done n) ≡ true
      enabled_first n le = falls.enabled n (omega (arith, le, few))

      up_to_start : (n : ℕ) → n < mid 0 → TakesNothing acts levels u v t n
      up_to_start zero less = takes_nothing 0 (Some (heard f t)) begins
      up_to_start (suc n) less = quiet (bit 0 0 false) 0 (mid 0) refl enabled_first start_stands (suc n) (omega arith) less

      start_sampled : (at (suc (mid 0))).receiver ≡ sampled (done (mid 0)).receiver (bit 0 0 false) (t + mid 0) (heard_at 0)
      start_sampled = samples_then (bit 0 0 false) 0 (mid 0) refl enabled_first start_stands some

      with_last : (n : ℕ) → n ≤ mid 0 → TakesNothing acts levels u v t (mid 0) → TakesNothing acts levels u v t n
      with_last n le at_last = elim (cases_lt n (mid 0)) [
        | inl less ↦ up_to_start n less
        | inr more ↦ let here : mid 0 ≡ n = omega (arith, le, more) in subst (TakesNothing acts levels u v t) here at_last
      ]

      noise_after : heard_at 0 ≡ true → (at (suc (mid 0))).receiver ≡ record ((done (mid 0)).receiver) { reception = None }
      noise_after high =
          start_sampled ∙ ap (λ (b : Bool). sampled (done (mid 0)).receiver (bit 0 0 false) (t + mid 0) b) high
          ∙ noise_sample (done (mid 0)).receiver (bit 0 0 false) (t + mid 0) refl

      noise_so : heard_at 0 ≡ true → IsNoise acts levels u v t
      noise_so high =
          let one_more : mid 0 + 1 ≡ suc (mid 0) = omega arith in
          record {
            nothing = λ n le. with_last n le (takes_nothing (mid 0) None (noise_after high));
            idle = ap (λ (m : ℕ). (at m).receiver.reception) one_more ∙ ap (λ (x : Receiver). x.reception) (noise_after high);
          }

    -- ---- a start bit that is one

    module _ (whole : mid (stop acts levels u v t) ≤ cycles) (clean : heard_at 0 ≡ false) where
      abbrev last : ℕ
      last = stop acts levels u v t

      enabled_to : (k : ℕ) → k ≤ last → (n : ℕ) → n ≤ mid k → rxen (done n) ≡ true
      enabled_to k le n less = let m = mid_grows k last le in falls.enabled n (omega (arith, less, m, whole))

      -- bit k is sampled next, and nothing came into the queue
      record Stage (k j x : ℕ) (e : Bool) : Type 0 where
        stands_so : Stands (bit k x e) (suc (mid j))
        nothing : (n : ℕ) → n ≤ mid j → TakesNothing acts levels u v t n

      -- the sample of a bit that leaves the queue alone
      module _ (k j x : ℕ) (e : Bool) (is : k ≡ j + 1) (le : k ≤ last) (s : Stage k j x e) where
        on : (n : ℕ) → n ≤ mid k → rxen (done n) ≡ true
        on = enabled_to k le

        before_sample : suc (mid j) ≤ mid k
        before_sample = let m = ap mid is ∙ mid_next j in let p = some_bit.0 in omega (arith, m, p)

        sample_of : (at (suc (mid k))).receiver ≡ sampled (done (mid k)).receiver (bit k x e) (t + mid k) (heard_at k)
        sample_of = samples_then (bit k x e) (mid j) (mid k) refl on s.stands_so before_sample

        until_sample : (n : ℕ) → n < mid k → TakesNothing acts levels u v t n
        until_sample n less = elim (cases_lt (mid j) n) [
          | inl more ↦ quiet (bit k x e) (mid j) (mid k) refl on s.stands_so n more less
          | inr early ↦ s.nothing n early
        ]

        through_sample : TakesNothing acts levels u v t (mid k) → (n : ℕ) → n ≤ mid k → TakesNothing acts levels u v t n
        through_sample at_last n le_n = elim (cases_lt n (mid k)) [
          | inl less ↦ until_sample n less
          | inr more ↦ let here : mid k ≡ n = omega (arith, le_n, more) in subst (TakesNothing acts levels u v t) here at_last
        ]

        next_stage : (x' : ℕ) (e' : Bool) →
            (at (suc (mid k))).receiver ≡ record ((done (mid k)).receiver) { reception = Some (record { format = f; place = k + 1; sample = t + mid k + f.bit; byte = x'; upe = e' }) } →
            Stage (k + 1) k x' e'
        next_stage x' e' went = record {
          stands_so = goes (mid k) _ (bit (k + 1) x' e') went (next_is k x' e');
          nothing = through_sample (takes_nothing (mid k) _ went);
        }

      small : f.size + 1 ≤ last
      small = plain f.size (one (has_parity f.parity))
        where
          plain : (a b : ℕ) → a + 1 ≤ a + 1 + b
          plain a b = omega arith

      few_so : mid 0 ≤ cycles
      few_so = let m = mid_grows 0 last (omega arith) in omega (arith, m, whole)

      data_stage : (i : ℕ) → i ≤ f.size → Stage (i + 1) i (came i) false
      unfolding came
      data_stage zero le =
          let went = start_sampled few_so ∙ ap (λ (b : Bool). sampled (done (mid 0)).receiver (bit 0 0 false) (t + mid 0) b) clean
          ∙ start_sample (done (mid 0)).receiver (bit 0 0 false) (t + mid 0) refl in
          record {
            stands_so = goes (mid 0) _ (bit (0 + 1) 0 false) went (next_is 0 0 false);
            nothing = λ n le_n. with_last few_so n le_n (takes_nothing (mid 0) _ went);
          }
      data_stage (suc i) le =
          let s = data_stage i (omega (arith, le)) in
          let few : i + 1 ≤ last = let m = small in omega (arith, le, m) in
          let went = sample_of (i + 1) i (came i) false refl few s
          ∙ data_sample (done (mid (i + 1))).receiver (bit (i + 1) (came i) false) (t + mid (i + 1)) i (heard_at (i + 1)) refl (omega (arith, le)) in
          let one_more : i + 1 ≡ suc i = omega arith in
          subst (λ (k : ℕ). Stage (k + 1) k (came (suc i)) false) one_more (next_stage (i + 1) i (came i) false refl few s (came (suc i)) false went)

      -- the first stop bit
      finish : (j : ℕ) (e : Bool) → last ≡ j + 1 → Stage last j (came f.size) e → is_parity f last ≡ false →
          (has_parity f.parity ≡ false → e ≡ false) → (has_parity f.parity ≡ true → e ≡ differ (heard_at (f.size + 1)) (parity_bit f.parity (came f.size))) → IsReceived acts levels u v t
      finish j e is s not_parity plain parity =
          let le : last ≤ last = omega arith in
          let over = sample_of last j (came f.size) e is le s
          ∙ after_data (done (mid last)).receiver (bit last (came f.size) e) (t + mid last) (heard_at last) (let m = small in omega (arith, m))
          ∙ cond-false (is_parity f last) _ (ended (done (mid last)).receiver (bit last (came f.size) e) (heard_at last)) not_parity in
          let one_more : mid last + 1 ≡ suc (mid last) = omega arith in
          let then_so = ap (λ (m : ℕ). (at m).receiver) one_more ∙ over in
          record {
            byte = came f.size;
            below = came_below f.size;
            bits = λ i less. came_bits f.size i less;
            upe = e;
            plain = plain;
            parity = parity;
            nothing = until_sample last j (came f.size) e is le s;
            queue = ap (λ (x : Receiver). x.queue) then_so;
            dor = ap (λ (x : Receiver). x.dor) then_so;
            idle = ap (λ (x : Receiver). x.reception) then_so;
          }

      -- the error that the parity shows
      abbrev wrong_parity : Bool
      wrong_parity = differ (heard_at (f.size + 1)) (parity_bit f.parity (came f.size))

      parity_stage : has_parity f.parity ≡ true → Stage (f.size + 1 + 1) (f.size + 1) (came f.size) wrong_parity
      parity_stage there =
          let s = data_stage f.size (omega arith) in
          next_stage (f.size + 1) f.size (came f.size) false refl small s (came f.size) wrong_parity
          (sample_of (f.size + 1) f.size (came f.size) false refl small s
          ∙ parity_sample (done (mid (f.size + 1))).receiver (bit (f.size + 1) (came f.size) false) (t + mid (f.size + 1)) (heard_at (f.size + 1)) refl there)

      received_so : IsReceived acts levels u v t
      received_so = by (has_parity f.parity) refl
        where
          by : (p : Bool) → has_parity f.parity ≡ p → IsReceived acts levels u v t
          by false none =
              let last_is : last ≡ f.size + 1 = ap (λ (b : Bool). f.size + 1 + one b) none ∙ (let e : f.size + 1 + 0 ≡ f.size + 1 = omega arith in e) in
              finish f.size false last_is (subst (λ (k : ℕ). Stage k f.size (came f.size) false) (sym last_is) (data_stage f.size (omega arith)))
              (and_left (has_parity f.parity) (last == f.size + 1) none) (λ _. refl) (λ there. absurd (both_ways (has_parity f.parity) none there))
          by true there =
              let last_is : last ≡ f.size + 1 + 1 = ap (λ (b : Bool). f.size + 1 + one b) there in
              finish (f.size + 1) wrong_parity last_is (subst (λ (k : ℕ). Stage k (f.size + 1) (came f.size) wrong_parity) (sym last_is) (parity_stage there))
              (and_right (has_parity f.parity) (last == f.size + 1) (ne_eqb last (f.size + 1) (λ z. omega (arith, z, last_is))))
              (λ none. absurd (both_ways (has_parity f.parity) none there)) (λ _. refl)

-- a frame whose start bit reads 0 in its middle, and a start bit that does not
pub usart_hears_frame : (u : Usart) (t : ℕ) (from to : List Level) → HearsFrame u (stepped u t (rxd from) (rxd to)) t from to
usart_hears_frame u t from to = record {
  frame = λ acts levels falls clean. let v = stepped u t (rxd from) (rxd to) in
      received_so acts levels u v t from to refl (middle acts levels u v t (stop acts levels u v t)) falls (omega arith) clean;
  noise = λ acts levels falls high. let v = stepped u t (rxd from) (rxd to) in
      noise_so acts levels u v t from to refl (middle acts levels u v t 0) falls (omega arith) high;
}
