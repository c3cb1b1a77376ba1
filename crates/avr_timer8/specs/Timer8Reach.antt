-- Which pins timers 0 and 2 ask for something, and which of their registers may change that.
use Rattle.std.specs.Prelude.{◌≡◌, ℕ, ◌==◌, Bool, true, false, Option, None, Some}
use Rattle.std.proofs.Common.{refl, arith}
use Rattle.part_law.specs.declared.span.Span.{Span}
use Rattle.avr_unit.specs.Bits.{with_bit}
use Rattle.avr_unit.specs.Placed.{Placed}
use Rattle.avr_unit.specs.Reach.{Reach, Reaches, by_register, by_register_reaches}
use Rattle.avr_unit.specs.UnitMachine.{at_register}
use Rattle.avr_unit.proofs.HullLemmas.{outside}
use Rattle.avr_timer.specs.Outputs.{turned_pins}
use Rattle.avr_timer.specs.Timing.{counter_step}
use Rattle.avr_timer8.specs.Registers.{register_at}
use Rattle.avr_timer8.specs.declared.registers.Register.{Register}
use Rattle.avr_timer8.specs.declared.registers.Register.TheVariants.{TIFRn, GTCCR, TCCRnA, TCCRnB, TCNTn, OCRnA, OCRnB, TIMSKn}
use Rattle.avr_timer8.specs.declared.registers.Which.{Which}
use Rattle.avr_timer8.specs.declared.registers.Which.TheVariants.{Zero, Two}
use Rattle.avr_timer8.specs.Timer8.{Timer8, timer8, timing, mode_of, pin_a, pin_b, pad, with_register, kept}

-- those of its outputs, with those between
abbrev pub its_pins : Which → Span
its_pins Zero = record { from = 5; to = 7 }
its_pins Two = record { from = 3; to = 12 }

timer0_placed : Placed (timer8 Zero) (its_pins Zero)
timer0_placed u p less out = rw (first, second) refl
  where
    first : (p == 6) ≡ false
    first = outside 5 7 6 p out (omega arith) (omega arith)

    second : (p == 5) ≡ false
    second = outside 5 7 5 p out (omega arith) (omega arith)

timer2_placed : Placed (timer8 Two) (its_pins Two)
timer2_placed u p less out = rw (first, second) refl
  where
    first : (p == 11) ≡ false
    first = outside 3 12 11 p out (omega arith) (omega arith)

    second : (p == 3) ≡ false
    second = outside 3 12 3 p out (omega arith) (omega arith)

pub timer_placed : (w : Which) → Placed (timer8 w) (its_pins w)
timer_placed Zero = timer0_placed
timer_placed Two = timer2_placed

-- A cycle turns over outputs: their pins, with those between.
abbrev pub moved : Which → Timer8 → ℕ → Span
moved w u t = turned_pins (pin_a w) (pin_b w) (mode_of u.tccra u.tccrb) u.counter.a.latch u.counter.b.latch (counter_step (timing w u) u.counter t)

-- The modes and the compare outputs are chosen in TCCRnA and TCCRnB.
abbrev pub moves_pad : Register → Bool
moves_pad TCCRnA = true
moves_pad TCCRnB = true
moves_pad TIFRn = false
moves_pad GTCCR = false
moves_pad TCNTn = false
moves_pad OCRnA = false
moves_pad OCRnB = false
moves_pad TIMSKn = false

abbrev pub moves : Which → ℕ → Bool
moves w a = at_register (register_at w a) false moves_pad

abbrev pub timer8_reach : Which → Reach Timer8
timer8_reach w = by_register (moves w) (its_pins w)

write_kept : (w : Which) (u : Timer8) (t : ℕ) (r : Register) (x p : ℕ) → moves_pad r ≡ false → pad w (with_register w u t r x) p ≡ pad w u p
write_kept w u t TCCRnA x p h = cc
write_kept w u t TCCRnB x p h = cc
write_kept w u t TIFRn x p h = refl
write_kept w u t GTCCR x p h = refl
write_kept w u t TCNTn x p h = refl
write_kept w u t OCRnA x p h = refl
write_kept w u t OCRnB x p h = refl
write_kept w u t TIMSKn x p h = refl

at_kept : (w : Which) (u : Timer8) (t : ℕ) (r : Option Register) (x : Register → ℕ) (p : ℕ) → at_register r false moves_pad ≡ false →
    pad w (at_register r u (λ r. with_register w u t r (x r))) p ≡ pad w u p
at_kept w u t None x p h = refl
at_kept w u t (Some r) x p h = write_kept w u t r (x r) p h

pub timer8_reaches : (w : Which) → Reaches (timer8 w) (timer8_reach w)
timer8_reaches w = by_register_reaches (timer8 w) (moves w) (its_pins w) (timer_placed w)
    (λ s t a x p h. at_kept w s t (register_at w a) (λ r. x) p h) (λ s t a k x p h. at_kept w s t (register_at w a) (λ r. with_bit (kept s r) k x) p h)
