-- Which pins the unit asks for something, and which of its registers may change that.
use Rattle.std.specs.Prelude.{◌≡◌, ℕ, ◌==◌, Bool, true, false, Option, None, Some}
use Rattle.std.proofs.Common.{refl, arith}
use Rattle.part_law.specs.declared.span.Span.{Span}
use Rattle.avr_unit.specs.Bits.{with_bit}
use Rattle.avr_unit.specs.Placed.{Placed}
use Rattle.avr_unit.specs.Reach.{Reach, Reaches, by_register, by_register_reaches}
use Rattle.avr_unit.specs.UnitMachine.{at_register}
use Rattle.avr_unit.proofs.HullLemmas.{outside}
use Rattle.avr_timer.specs.Outputs.{turned_pins}
use Rattle.avr_timer.specs.Timing.{counter_step}
use Rattle.avr_timer16.specs.Registers.{register_at}
use Rattle.avr_timer16.specs.declared.registers.Register.{Register}
use Rattle.avr_timer16.specs.declared.registers.Register.TheVariants.{TIFR1, GTCCR, TIMSK1, TCCR1A, TCCR1B, TCNT1L, TCNT1H, ICR1L, ICR1H, OCR1AL, OCR1AH, OCR1BL, OCR1BH}
use Rattle.avr_timer16.specs.Timer16.{Timer16, timer16, timing, mode_of, pad, with_register, kept}

abbrev pub its_pins : Span
its_pins = record { from = 9; to = 11 }

pub timer1_placed : Placed timer16 its_pins
timer1_placed u p less out = rw (first, second) refl
  where
    first : (p == 9) ≡ false
    first = outside 9 11 9 p out (omega arith) (omega arith)

    second : (p == 10) ≡ false
    second = outside 9 11 10 p out (omega arith) (omega arith)

-- A cycle turns over outputs: their pins, with those between.
abbrev pub moved : Timer16 → ℕ → Span
moved u t = turned_pins 9 10 (mode_of u.tccra u.tccrb) u.counter.a.latch u.counter.b.latch (counter_step (timing u) u.counter t)

-- The modes and the compare outputs are chosen in TCCR1A and TCCR1B.
abbrev pub moves_pad : Register → Bool
moves_pad TCCR1A = true
moves_pad TCCR1B = true
moves_pad TIFR1 = false
moves_pad GTCCR = false
moves_pad TIMSK1 = false
moves_pad TCNT1L = false
moves_pad TCNT1H = false
moves_pad ICR1L = false
moves_pad ICR1H = false
moves_pad OCR1AL = false
moves_pad OCR1AH = false
moves_pad OCR1BL = false
moves_pad OCR1BH = false

abbrev pub moves : ℕ → Bool
moves a = at_register (register_at a) false moves_pad

abbrev pub timer16_reach : Reach Timer16
timer16_reach = by_register moves its_pins

write_kept : (u : Timer16) (t : ℕ) (r : Register) (x p : ℕ) → moves_pad r ≡ false → pad (with_register u t r x) p ≡ pad u p
write_kept u t TIFR1 x p h = refl
write_kept u t GTCCR x p h = refl
write_kept u t TIMSK1 x p h = refl
write_kept u t TCCR1A x p h = cc
write_kept u t TCCR1B x p h = cc
write_kept u t TCNT1L x p h = refl
write_kept u t TCNT1H x p h = refl
write_kept u t ICR1L x p h = refl
write_kept u t ICR1H x p h = refl
write_kept u t OCR1AL x p h = refl
write_kept u t OCR1AH x p h = refl
write_kept u t OCR1BL x p h = refl
write_kept u t OCR1BH x p h = refl

write_at : (u : Timer16) (t : ℕ) (r : Option Register) (x : Register → ℕ) (p : ℕ) → at_register r false moves_pad ≡ false →
    pad (at_register r u (λ r. with_register u t r (x r))) p ≡ pad u p
write_at u t None x p h = refl
write_at u t (Some r) x p h = write_kept u t r (x r) p h

pub timer16_reaches : Reaches timer16 timer16_reach
timer16_reaches = by_register_reaches timer16 moves its_pins timer1_placed (λ s t a x p h. write_at s t (register_at a) (λ r. x) p h) (λ s t a k x p h. write_at s t (register_at a) (λ r. with_bit (kept s r) k x) p h)
