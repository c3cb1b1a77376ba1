-- Which registers leave what comes next of the ports.
use Rattle.std.proofs.Common.{◌≡◌, ◌∙◌, ℕ, ◌+◌, ◌≤◌, List, [], Bool, true, false, Some, Option, inl, inr, arith, ap, sym, subst, refl}
use Rattle.std.specs.Prelude.{if◌then◌else◌, ◌^◌, ◌&&◌, nat_le}
use Rattle.std.proofs.lemmas.Bool.{leb-true, and_parts}
use Rattle.std.proofs.lemmas.Bool.Decides.{eqb_tells}
use Rattle.sim_base.specs.declared.signal.Level.{Level}
use Rattle.avr_unit.specs.Bits.{with_bit}
use Rattle.avr_unit.specs.UnitMachine.{at_register}
use Rattle.avr_unit.specs.Next.{WritesKeepNext}
use Rattle.avr_ports.specs.Registers.{register_at}
use Rattle.avr_ports.specs.declared.registers.Register.{Register}
use Rattle.avr_ports.specs.declared.registers.Register.TheVariants.{PINB, DDRB, PORTB, PINC, DDRC, PORTC, PIND, DDRD, PORTD}
use Rattle.avr_ports.specs.Ports.{Ports, ports, requests, rouses, register, acts_by_ones, with_register, with_register_bit}

-- a register of the ports, a write of which leaves what they request: nothing of theirs is ever due
module _ (r : Register) (leaves : (s : Ports) (x : ℕ) (l : List Level) → (requests (with_register s r x) l ≡ requests s l) × (rouses (with_register s r x) l ≡ rouses s l)) where
  bit_leaves : (s : Ports) (k : ℕ) (x : Bool) (l : List Level) → (requests (with_register_bit s r k x) l ≡ requests s l) × (rouses (with_register_bit s r k x) l ≡ rouses s l)
  bit_leaves s k x l = by (acts_by_ones r) x
    where
      made : Bool → Bool → Ports
      made acts x = if acts then (if x then with_register s r (2 ^ k) else s) else with_register s r (with_bit (register s [] r) k x)

      by : (acts x : Bool) → (requests (made acts x) l ≡ requests s l) × (rouses (made acts x) l ≡ rouses s l)
      by true true = leaves s (2 ^ k) l
      by true false = (refl, refl)
      by false x = leaves s (with_bit (register s [] r) k x) l

  register_keeps : (a : ℕ) → register_at a ≡ Some r → WritesKeepNext ports a
  register_keeps a is = record {
    writes = λ s t x. record {
      events = λ k. refl;
      requests = λ l. ap (λ (o : Option Register). requests (at_register o s (λ r. with_register s r x)) l) is ∙ (leaves s x l).0;
      rouses = λ l. ap (λ (o : Option Register). rouses (at_register o s (λ r. with_register s r x)) l) is ∙ (leaves s x l).1;
    };
    bits = λ s t k x. record {
      events = λ j. refl;
      requests = λ l. ap (λ (o : Option Register). requests (at_register o s (λ r. with_register_bit s r k x)) l) is ∙ (bit_leaves s k x l).0;
      rouses = λ l. ap (λ (o : Option Register). rouses (at_register o s (λ r. with_register_bit s r k x)) l) is ∙ (bit_leaves s k x l).1;
    };
  }

-- of the addresses from a to z, a itself and those behind it
at_or_behind : (G : ℕ → Type 0) (a z : ℕ) → G a → ((b : ℕ) → a + 1 ≤ b → b ≤ z → G b) → (b : ℕ) → a ≤ b → b ≤ z → G b
at_or_behind G a z here behind b from to = elim (eqb_tells b a) [
  | inl is ↦ subst G (sym is.1) here
  | inr other ↦ let apart = other.1 in behind b (omega (arith, from, apart)) to
]

-- PINx, DDRx and PORTx, from PINB to PORTD
port_keeps : (a : ℕ) → 0x23 ≤ a → a ≤ 0x2B → WritesKeepNext ports a
port_keeps =
    at_or_behind G 0x23 0x2B (register_keeps PINB (λ s x l. (refl, refl)) 0x23 refl)
    (at_or_behind G 0x24 0x2B (register_keeps DDRB (λ s x l. (refl, refl)) 0x24 refl)
    (at_or_behind G 0x25 0x2B (register_keeps PORTB (λ s x l. (refl, refl)) 0x25 refl)
    (at_or_behind G 0x26 0x2B (register_keeps PINC (λ s x l. (refl, refl)) 0x26 refl)
    (at_or_behind G 0x27 0x2B (register_keeps DDRC (λ s x l. (refl, refl)) 0x27 refl)
    (at_or_behind G 0x28 0x2B (register_keeps PORTC (λ s x l. (refl, refl)) 0x28 refl)
    (at_or_behind G 0x29 0x2B (register_keeps PIND (λ s x l. (refl, refl)) 0x29 refl)
    (at_or_behind G 0x2A 0x2B (register_keeps DDRD (λ s x l. (refl, refl)) 0x2A refl)
    (at_or_behind G 0x2B 0x2B (register_keeps PORTD (λ s x l. (refl, refl)) 0x2B refl)
    (λ b from to. absurd (omega (arith, from, to)))))))))))
  where
    G : ℕ → Type 0
    G = WritesKeepNext ports

pub ports_writes : (a : ℕ) → (nat_le 0x23 a && nat_le a 0x2B) ≡ true → WritesKeepNext ports a
ports_writes a h = let within = and_parts _ _ h in port_keeps a (leb-true 0x23 a within.0) (leb-true a 0x2B within.1)
