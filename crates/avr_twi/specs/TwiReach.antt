-- Which pins the unit asks for something, and which of its registers may change that.
use Rattle.std.specs.Prelude.{◌≡◌, ℕ, ◌==◌, Bool, true, false, if◌then◌else◌, Option, None, Some}
use Rattle.std.proofs.Common.{refl, arith}
use Rattle.part_law.specs.declared.span.Span.{Span}
use Rattle.avr_unit.specs.Bits.{with_bit}
use Rattle.avr_unit.specs.Pad.{untouched}
use Rattle.avr_unit.specs.Placed.{Placed}
use Rattle.avr_unit.specs.Reach.{Reach, Reaches, by_register, by_register_reaches}
use Rattle.avr_unit.specs.UnitMachine.{at_register}
use Rattle.avr_unit.proofs.HullLemmas.{outside}
use Rattle.avr_twi.specs.Registers.{register_at}
use Rattle.avr_twi.specs.declared.registers.Register.{Register}
use Rattle.avr_twi.specs.declared.registers.Register.TheVariants.{TWBR, TWSR, TWDR, TWCR}
use Rattle.avr_twi.specs.Twi.{Twi, twi, twi_pad, with_register, kept}

abbrev pub its_pins : Span
its_pins = record { from = 18; to = 20 }

always : (b : Bool) → (if b then untouched else untouched) ≡ untouched
always true = refl
always false = refl

pub twi_placed : Placed twi its_pins
twi_placed u p less out = rw (data_line, clock) (always _)
  where
    data_line : (p == 18) ≡ false
    data_line = outside 18 20 18 p out (omega arith) (omega arith)

    clock : (p == 19) ≡ false
    clock = outside 18 20 19 p out (omega arith) (omega arith)

-- registers of which a write may change what the TWI asks of a pin: TWEN, and the beginning of an action
abbrev pub moves_pad : Register → Bool
moves_pad TWCR = true
moves_pad TWBR = false
moves_pad TWSR = false
moves_pad TWDR = false

abbrev pub moves : ℕ → Bool
moves a = at_register (register_at a) false moves_pad

abbrev pub twi_reach : Reach Twi
twi_reach = by_register moves its_pins

write_pad : (u : Twi) (t : ℕ) (r : Register) (x p : ℕ) → moves_pad r ≡ false → twi_pad (with_register u t r x) p ≡ twi_pad u p
write_pad u t TWCR x p h = cc
write_pad u t TWBR x p h = refl
write_pad u t TWSR x p h = refl
write_pad u t TWDR x p h = refl

at_pad : (u : Twi) (t : ℕ) (o : Option Register) (x : Register → ℕ) (p : ℕ) → at_register o false moves_pad ≡ false →
    twi_pad (at_register o u (λ r. with_register u t r (x r))) p ≡ twi_pad u p
at_pad u t None x p h = refl
at_pad u t (Some r) x p h = write_pad u t r (x r) p h

pub twi_reaches : Reaches twi twi_reach
twi_reaches = by_register_reaches twi moves its_pins twi_placed (λ s t a x p h. at_pad s t (register_at a) (λ r. x) p h) (λ s t a k x p h. at_pad s t (register_at a) (λ r. with_bit (kept s r) k x) p h)
