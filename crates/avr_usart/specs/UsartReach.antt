-- Which pins the unit asks for something, and which of its registers may change that.
use Rattle.std.specs.Prelude.{◌≡◌, ℕ, ◌==◌, Bool, true, false, Option, None, Some}
use Rattle.std.proofs.Common.{refl, arith}
use Rattle.part_law.specs.declared.span.Span.{Span}
use Rattle.avr_unit.specs.Bits.{with_bit}
use Rattle.avr_unit.specs.Placed.{Placed}
use Rattle.avr_unit.specs.Reach.{Reach, Reaches, by_register, by_register_reaches}
use Rattle.avr_unit.specs.UnitMachine.{at_register}
use Rattle.avr_unit.proofs.HullLemmas.{outside}
use Rattle.avr_usart.specs.Registers.{register_at}
use Rattle.avr_usart.specs.declared.registers.Register.{Register}
use Rattle.avr_usart.specs.declared.registers.Register.TheVariants.{UCSR0A, UCSR0B, UCSR0C, UBRR0L, UBRR0H, UDR0}
use Rattle.avr_usart.specs.Usart.{Usart, usart, usart_pad, with_register, kept}

abbrev pub its_pins : Span
its_pins = record { from = 0; to = 2 }

pub usart_placed : Placed usart its_pins
usart_placed u p less out = rw (zero_is, one_is) refl
  where
    zero_is : (p == 0) ≡ false
    zero_is = outside 0 2 0 p out (omega arith) (omega arith)

    one_is : (p == 1) ≡ false
    one_is = outside 0 2 1 p out (omega arith) (omega arith)

-- registers of which a write may change what a pin is asked for: RXEN0 and TXEN0, and a byte whose frame begins
abbrev pub moves_pad : Register → Bool
moves_pad UCSR0B = true
moves_pad UDR0 = true
moves_pad UCSR0A = false
moves_pad UCSR0C = false
moves_pad UBRR0L = false
moves_pad UBRR0H = false

abbrev pub moves : ℕ → Bool
moves a = at_register (register_at a) false moves_pad

abbrev pub usart_reach : Reach Usart
usart_reach = by_register moves its_pins

write_pad : (u : Usart) (t : ℕ) (r : Register) (x p : ℕ) → moves_pad r ≡ false → usart_pad (with_register u t r x) p ≡ usart_pad u p
write_pad u t UCSR0B x p h = cc
write_pad u t UDR0 x p h = cc
write_pad u t UCSR0A x p h = refl
write_pad u t UCSR0C x p h = refl
write_pad u t UBRR0L x p h = refl
write_pad u t UBRR0H x p h = refl

at_pad : (u : Usart) (t : ℕ) (o : Option Register) (x : Register → ℕ) (p : ℕ) → at_register o false moves_pad ≡ false →
    usart_pad (at_register o u (λ r. with_register u t r (x r))) p ≡ usart_pad u p
at_pad u t None x p h = refl
at_pad u t (Some r) x p h = write_pad u t r (x r) p h

pub usart_reaches : Reaches usart usart_reach
usart_reaches = by_register_reaches usart moves its_pins usart_placed (λ s t a x p h. at_pad s t (register_at a) (λ r. x) p h) (λ s t a k x p h. at_pad s t (register_at a) (λ r. with_bit (kept s r) k x) p h)
