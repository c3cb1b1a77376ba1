-- Which pins a write of the ports' registers reaches: of a port the Uno has 8 to 13 of B, A0 to A5, numbered from 14, of C, and 0 to
-- 7 of D.
use Rattle.std.proofs.Common.{Option, None, Some, ◌≡◌, ◌≢◌, ℕ, zero, suc, ◌+◌, ◌-◌, ◌%◌, ◌<◌, ◌≤◌, ◌∙◌, Bool, true, false, nat_lt, [], refl, ap, sym, subst, arith}
use Rattle.std.specs.Prelude.{bit_xor, if◌then◌else◌, ◌==◌, ◌^◌}
use Rattle.std.specs.Int.{bit_at}
use Rattle.std.proofs.lemmas.Bool.{false≢true}
use Rattle.std.proofs.lemmas.Bool.Decides.{nat_tests}
use Rattle.std.proofs.lemmas.Nat.Bits.{bit_at-lt, bit_at_xor}
use Rattle.part_law.specs.declared.span.Span.{Span}
use Rattle.part_law.specs.Spans.{IsIn, no_pins}
use Rattle.avr_unit.specs.Bits.{is_set, with_bit}
use Rattle.avr_unit.specs.Pad.{untouched}
use Rattle.avr_unit.specs.declared.pad.Pad.{Pad}
use Rattle.avr_unit.specs.Placed.{SameBut}
use Rattle.avr_unit.specs.Reach.{Reach, Reaches}
use Rattle.avr_unit.specs.UnitMachine.{at_register}
use Rattle.avr_unit.specs.declared.pins.TheConstants.{PORT_PINS}
use Rattle.avr_ports.specs.PinsAt.{pins_at, low_bit, not_told, ends}
use Rattle.avr_ports.specs.Registers.{register_at}
use Rattle.avr_ports.specs.declared.registers.Register.{Register}
use Rattle.avr_ports.specs.declared.registers.Register.TheVariants.{PINB, DDRB, PORTB, PINC, DDRC, PORTC, PIND, DDRD, PORTD, PCIFR, EIFR, EIMSK, PCICR, EICRA, PCMSK0, PCMSK1, PCMSK2}
use Rattle.avr_ports.specs.Ports.{Ports, ports, bit_pad, port_pad, register, with_register, with_register_bit, acts_by_ones}

-- The bits that a write turns over, of those that have a pin: where DDRx or PORTx gets another value, and the ones of PINx, which
-- toggle PORTx.
abbrev pub turned : Ports → Register → ℕ → ℕ
turned u PINB x = x % 64
turned u DDRB x = bit_xor x u.ddrb % 64
turned u PORTB x = bit_xor x u.portb % 64
turned u PINC x = x % 64
turned u DDRC x = bit_xor x u.ddrc % 64
turned u PORTC x = bit_xor x u.portc % 64
turned u PIND x = x % 256
turned u DDRD x = bit_xor x u.ddrd % 256
turned u PORTD x = bit_xor x u.portd % 256
turned u r x = 0

-- the pin of bit 0 of a register's port
abbrev pub first_pin : Register → ℕ
first_pin PINB = 8
first_pin DDRB = 8
first_pin PORTB = 8
first_pin PINC = 14
first_pin DDRC = 14
first_pin PORTC = 14
first_pin r = 0

-- the pins that a write reaches, and those that a write of one bit alone reaches
abbrev pub reached : Ports → Register → ℕ → Span
reached u r x = pins_at (first_pin r) (turned u r x)

abbrev pub bit_reached : Ports → Register → ℕ → Bool → Span
bit_reached u r k x =
    if acts_by_ones r then (if x then reached u r (2 ^ k) else no_pins)
    else reached u r (with_bit (register u [] r) k x)

abbrev pub ports_reach : Reach Ports
ports_reach = record {
  writes = λ u a x. at_register (register_at a) no_pins (λ r. reached u r x);
  bits = λ u a k x. at_register (register_at a) no_pins (λ r. bit_reached u r k x);
}

-- The least span that has each pin of which something else is asked now: of its first pin and of its last it is something else.
pub record Least (new old : Ports) (pins : Span) : Type 0 where
  pub others : SameBut ports pins new old
  pub first : nat_lt pins.from pins.to ≡ true → port_pad new pins.from ≢ port_pad old pins.from
  pub last : nat_lt pins.from pins.to ≡ true → port_pad new (pins.to - 1) ≢ port_pad old (pins.to - 1)

-- nothing else is asked of a pin
none_least : (new old : Ports) → ((p : ℕ) → port_pad new p ≡ port_pad old p) → Least new old no_pins
none_least new old same = record { others = λ p less out. same p; first = λ any. absurd (false≢true any); last = λ any. absurd (false≢true any) }

-- another DDRx and PORTx, which ask the same of the pins outside of the port
module _ (u : Ports) (d n p : ℕ) where
  other_b : ((8 ≤ p) → (p < 14) → bit_pad d n (p - 8) ≡ bit_pad u.ddrb u.portb (p - 8)) → port_pad (record u { ddrb = d; portb = n }) p ≡ port_pad u p
  other_b same = by (nat_lt p 8) (nat_lt p 14) refl refl
    where
      by : (x y : Bool) → nat_lt p 8 ≡ x → nat_lt p 14 ≡ y →
          (if x then bit_pad u.ddrd u.portd p else if y then bit_pad d n (p - 8) else bit_pad u.ddrc u.portc (p - 14))
          ≡ (if x then bit_pad u.ddrd u.portd p else if y then bit_pad u.ddrb u.portb (p - 8) else bit_pad u.ddrc u.portc (p - 14))
      by true y e f = refl
      by false true e f = same (grind (arith, nat_tests, e)) (grind (arith, nat_tests, f))
      by false false e f = refl

  other_c : ((14 ≤ p) → bit_pad d n (p - 14) ≡ bit_pad u.ddrc u.portc (p - 14)) → port_pad (record u { ddrc = d; portc = n }) p ≡ port_pad u p
  other_c same = by (nat_lt p 8) (nat_lt p 14) refl refl
    where
      by : (x y : Bool) → nat_lt p 8 ≡ x → nat_lt p 14 ≡ y →
          (if x then bit_pad u.ddrd u.portd p else if y then bit_pad u.ddrb u.portb (p - 8) else bit_pad d n (p - 14))
          ≡ (if x then bit_pad u.ddrd u.portd p else if y then bit_pad u.ddrb u.portb (p - 8) else bit_pad u.ddrc u.portc (p - 14))
      by true y e f = refl
      by false true e f = refl
      by false false e f = same (grind (arith, nat_tests, f))

  other_d : (p < 8 → bit_pad d n p ≡ bit_pad u.ddrd u.portd p) → port_pad (record u { ddrd = d; portd = n }) p ≡ port_pad u p
  other_d same = by (nat_lt p 8) refl
    where
      by : (x : Bool) → nat_lt p 8 ≡ x →
          (if x then bit_pad d n p else if nat_lt p 14 then bit_pad u.ddrb u.portb (p - 8) else bit_pad u.ddrc u.portc (p - 14))
          ≡ (if x then bit_pad u.ddrd u.portd p else if nat_lt p 14 then bit_pad u.ddrb u.portb (p - 8) else bit_pad u.ddrc u.portc (p - 14))
      by true e = same (grind (arith, nat_tests, e))
      by false e = refl

-- a pin of a port is asked what the port's bit asks
pad_b : (u : Ports) (k : ℕ) → k < 6 → port_pad u (8 + k) ≡ bit_pad u.ddrb u.portb k
pad_b u k less =
    let above : nat_lt (8 + k) 8 ≡ false = grind (arith, nat_tests) in
    let below : nat_lt (8 + k) 14 ≡ true = grind (arith, nat_tests) in
    let is : 8 + k - 8 ≡ k = omega arith in
    rw (above, below, is) refl

pad_c : (u : Ports) (k : ℕ) → port_pad u (14 + k) ≡ bit_pad u.ddrc u.portc k
pad_c u k =
    let above : nat_lt (14 + k) 8 ≡ false = grind (arith, nat_tests) in
    let beyond : nat_lt (14 + k) 14 ≡ false = grind (arith, nat_tests) in
    let is : 14 + k - 14 ≡ k = omega arith in
    rw (above, beyond, is) refl

pad_d : (u : Ports) (k : ℕ) → k < 8 → port_pad u (0 + k) ≡ bit_pad u.ddrd u.portd k
pad_d u k less =
    let is : 0 + k ≡ k = omega arith in
    let below : nat_lt k 8 ≡ true = grind (arith, nat_tests) in
    rw (is, below) refl

-- which of w bits have another value
abbrev Differs : ℕ → ℕ → ℕ → ℕ → Type 0
Differs w bits new old = (j : ℕ) → j < w → (bit_at bits j ≡ 0 → is_set new j ≡ is_set old j) × (bit_at bits j ≡ 1 → is_set new j ≢ is_set old j)

-- and at which of them something else is asked
abbrev Asks : ℕ → ℕ → (ℕ → Pad) → (ℕ → Pad) → Type 0
Asks w bits new old = (j : ℕ) → j < w → (bit_at bits j ≡ 0 → new j ≡ old j) × (bit_at bits j ≡ 1 → new j ≢ old j)

same_bits : (a b : ℕ) → a < 2 → b < 2 → (a == 1) ≡ (b == 1) → a ≡ b
same_bits zero zero f g h = refl
same_bits zero (suc zero) f g h = cc
same_bits zero (suc (suc b)) f g h = absurd (omega (arith, g))
same_bits (suc zero) zero f g h = cc
same_bits (suc zero) (suc zero) f g h = refl
same_bits (suc zero) (suc (suc b)) f g h = absurd (omega (arith, g))
same_bits (suc (suc a)) b f g h = absurd (omega (arith, f))

-- a register that is written
written : (w x old : ℕ) → Differs w (bit_xor x old % 2 ^ w) x old
written w x old j less =
    let low = low_bit (bit_xor x old) w j less in
    let sum = bit_at_xor x old j in
    let a = bit_at-lt x j in
    let b = bit_at-lt old j in (
      λ none. ap (λ (y : ℕ). y == 1) (omega (arith, low, sum, a, b, none)),
      λ set same. let is = same_bits (bit_at x j) (bit_at old j) a b same in omega (arith, low, sum, a, b, set, is),
    )

-- and one of which ones are toggled
toggled : (w x old : ℕ) → Differs w (x % 2 ^ w) (bit_xor old x) old
toggled w x old j less =
    let low = low_bit x w j less in
    let sum = bit_at_xor old x j in
    let a = bit_at-lt (bit_xor old x) j in
    let b = bit_at-lt old j in (
      λ none. ap (λ (y : ℕ). y == 1) (omega (arith, low, sum, b, none)),
      λ set same. let is = same_bits (bit_at (bit_xor old x) j) (bit_at old j) a b same in omega (arith, low, sum, b, set, is),
    )

port_asks : (w bits ddr new old : ℕ) → Differs w bits new old → Asks w bits (bit_pad ddr new) (bit_pad ddr old)
port_asks w bits ddr new old h j less = (
  λ none. ap (λ (b : Bool). record untouched { ddr = is_set ddr j; port = b }) ((h j less).0 none),
  λ set same. (h j less).1 set (ap (λ (p : Pad). p.port) same),
)

ddr_asks : (w bits new old port : ℕ) → Differs w bits new old → Asks w bits (bit_pad new port) (bit_pad old port)
ddr_asks w bits new old port h j less = (
  λ none. ap (λ (b : Bool). record untouched { ddr = b; port = is_set port j }) ((h j less).0 none),
  λ set same. (h j less).1 set (ap (λ (p : Pad). p.ddr) same),
)

-- the pins of the bits at which a port asks something else, of which the others ask the same
module _ (first w bits : ℕ) (few : bits < 2 ^ w) (most : w ≤ 8) (new old : Ports) (a b : ℕ → Pad) (asks : Asks w bits a b) where
  least_by : ((p : ℕ) → p < PORT_PINS → ((j : ℕ) → j < w → p ≡ first + j → a j ≡ b j) → port_pad new p ≡ port_pad old p) →
      ((j : ℕ) → j < w → port_pad new (first + j) ≡ a j) → ((j : ℕ) → j < w → port_pad old (first + j) ≡ b j) → Least new old (pins_at first bits)
  least_by other is was = record {
    others = λ p less out. other p less (λ j within at. (asks j within).0 (not_told first w bits few most j (λ h. out (subst (λ (x : ℕ). IsIn (pins_at first bits) x) (sym at) h))));
    first = λ any.
        let e = ends first w bits few most any in
        differs e.low e.low_within e.low_set (pins_at first bits).from e.from_is;
    last = λ any.
        let e = ends first w bits few most any in
        differs e.high e.high_within e.high_set ((pins_at first bits).to - 1) e.to_is;
  }
    where
      differs : (j : ℕ) → j < w → bit_at bits j ≡ 1 → (p : ℕ) → p ≡ first + j → port_pad new p ≢ port_pad old p
      differs j within set p at same =
          (asks j within).1 set (sym (is j within) ∙ ap (port_pad new) (sym at) ∙ same ∙ ap (port_pad old) at ∙ was j within)

module _ (u : Ports) (bits d n : ℕ) where
  least_b : bits < 64 → Asks 6 bits (bit_pad d n) (bit_pad u.ddrb u.portb) → Least (record u { ddrb = d; portb = n }) u (pins_at 8 bits)
  least_b few asks = least_by 8 6 bits few (omega arith) (record u { ddrb = d; portb = n }) u (bit_pad d n) (bit_pad u.ddrb u.portb) asks
      (λ p less same. other_b u d n p (λ from to. same (p - 8) (omega (arith, from, to)) (omega (arith, from))))
      (λ j within. pad_b (record u { ddrb = d; portb = n }) j within) (λ j within. pad_b u j within)

  least_c : bits < 64 → Asks 6 bits (bit_pad d n) (bit_pad u.ddrc u.portc) → Least (record u { ddrc = d; portc = n }) u (pins_at 14 bits)
  least_c few asks = least_by 14 6 bits few (omega arith) (record u { ddrc = d; portc = n }) u (bit_pad d n) (bit_pad u.ddrc u.portc) asks
      (λ p less same. other_c u d n p (λ from. same (p - 14) (omega (arith, from, less)) (omega (arith, from))))
      (λ j within. pad_c (record u { ddrc = d; portc = n }) j) (λ j within. pad_c u j)

  least_d : bits < 256 → Asks 8 bits (bit_pad d n) (bit_pad u.ddrd u.portd) → Least (record u { ddrd = d; portd = n }) u (pins_at 0 bits)
  least_d few asks = least_by 0 8 bits few (omega arith) (record u { ddrd = d; portd = n }) u (bit_pad d n) (bit_pad u.ddrd u.portd) asks
      (λ p less same. other_d u d n p (λ to. same p to (omega arith)))
      (λ j within. pad_d (record u { ddrd = d; portd = n }) j within) (λ j within. pad_d u j within)

-- A write tells the least span that has each pin of which it asks something else, and so does one of one bit alone.
pub reached_least : (u : Ports) (r : Register) (x : ℕ) → Least (with_register u r x) u (reached u r x)
reached_least u PINB x = least_b u (x % 64) u.ddrb (bit_xor u.portb x) (omega arith) (port_asks 6 _ u.ddrb _ _ (toggled 6 x u.portb))
reached_least u DDRB x = least_b u (bit_xor x u.ddrb % 64) x u.portb (omega arith) (ddr_asks 6 _ _ _ u.portb (written 6 x u.ddrb))
reached_least u PORTB x = least_b u (bit_xor x u.portb % 64) u.ddrb x (omega arith) (port_asks 6 _ u.ddrb _ _ (written 6 x u.portb))
reached_least u PINC x = least_c u (x % 64) u.ddrc (bit_xor u.portc x) (omega arith) (port_asks 6 _ u.ddrc _ _ (toggled 6 x u.portc))
reached_least u DDRC x = least_c u (bit_xor x u.ddrc % 64) x u.portc (omega arith) (ddr_asks 6 _ _ _ u.portc (written 6 x u.ddrc))
reached_least u PORTC x = least_c u (bit_xor x u.portc % 64) u.ddrc x (omega arith) (port_asks 6 _ u.ddrc _ _ (written 6 x u.portc))
reached_least u PIND x = least_d u (x % 256) u.ddrd (bit_xor u.portd x) (omega arith) (port_asks 8 _ u.ddrd _ _ (toggled 8 x u.portd))
reached_least u DDRD x = least_d u (bit_xor x u.ddrd % 256) x u.portd (omega arith) (ddr_asks 8 _ _ _ u.portd (written 8 x u.ddrd))
reached_least u PORTD x = least_d u (bit_xor x u.portd % 256) u.ddrd x (omega arith) (port_asks 8 _ u.ddrd _ _ (written 8 x u.portd))
reached_least u PCIFR x = none_least (with_register u PCIFR x) u (λ p. refl)
reached_least u EIFR x = none_least (with_register u EIFR x) u (λ p. refl)
reached_least u EIMSK x = none_least (with_register u EIMSK x) u (λ p. refl)
reached_least u PCICR x = none_least (with_register u PCICR x) u (λ p. refl)
reached_least u EICRA x = none_least (with_register u EICRA x) u (λ p. refl)
reached_least u PCMSK0 x = none_least (with_register u PCMSK0 x) u (λ p. refl)
reached_least u PCMSK1 x = none_least (with_register u PCMSK1 x) u (λ p. refl)
reached_least u PCMSK2 x = none_least (with_register u PCMSK2 x) u (λ p. refl)

pub bit_reached_least : (u : Ports) (r : Register) (k : ℕ) (x : Bool) → Least (with_register_bit u r k x) u (bit_reached u r k x)
bit_reached_least u r k x = by (acts_by_ones r) x
  where
    by : (b x : Bool) →
        Least (if b then (if x then with_register u r (2 ^ k) else u) else with_register u r (with_bit (register u [] r) k x)) u
        (if b then (if x then reached u r (2 ^ k) else no_pins) else reached u r (with_bit (register u [] r) k x))
    by true true = reached_least u r (2 ^ k)
    by true false = none_least u u (λ p. refl)
    by false x = reached_least u r (with_bit (register u [] r) k x)

-- what a write of one bit alone reaches where a 0 acts too
pub kept_reached : (u : Ports) (r : Register) (k : ℕ) (x : Bool) → acts_by_ones r ≡ false → bit_reached u r k x ≡ reached u r (with_bit (register u [] r) k x)
kept_reached u r k x h = ap (λ (b : Bool). if b then (if x then reached u r (2 ^ k) else no_pins) else reached u r (with_bit (register u [] r) k x)) h

pub ports_reaches : Reaches ports ports_reach
ports_reaches = record {
  writes = λ s t a x. wrote s x (register_at a);
  bits = λ s t a k x. wrote_bit s k x (register_at a);
}
  where
    wrote : (s : Ports) (x : ℕ) (o : Option Register) → SameBut ports (at_register o no_pins (λ r. reached s r x)) (at_register o s (λ r. with_register s r x)) s
    wrote s x None = λ p less out. refl
    wrote s x (Some r) = (reached_least s r x).others

    wrote_bit : (s : Ports) (k : ℕ) (x : Bool) (o : Option Register) → SameBut ports (at_register o no_pins (λ r. bit_reached s r k x)) (at_register o s (λ r. with_register_bit s r k x)) s
    wrote_bit s k x None = λ p less out. refl
    wrote_bit s k x (Some r) = (bit_reached_least s r k x).others
