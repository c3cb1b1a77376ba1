-- Which pins the USART asks for something.
use Rattle.std.proofs.Common.{◌≡◌, ℕ, List, Bool, true, false, ap, sym, arith, refl}
use Rattle.std.specs.Prelude.{◌==◌, if◌then◌else◌}
use Rattle.sim_base.specs.declared.signal.Level.{Level}
use Rattle.part_law.specs.Spans.{no_pins}
use Rattle.avr_unit.specs.Pad.{untouched}
use Rattle.avr_unit.specs.declared.pad.Pad.{Pad}
use Rattle.avr_unit.specs.Placed.{StepMoves}
use Rattle.avr_unit.proofs.HullLemmas.{outside}
use Rattle.avr_usart.specs.Transmitter.{changes_line}
use Rattle.avr_usart.specs.Usart.{Usart, usart, rxen, txen, format_of}
use Rattle.avr_usart.specs.UsartLaws.{txd_kept}

-- a cycle changes what it asks of TXD alone, and of no pin where the line has the same level
pub usart_moves : (u : Usart) (t : ℕ) (before now : List Level) (b : Bool) → b ≡ changes_line u.transmitter.frame → StepMoves usart u t before now (if b then record { from = 1; to = 2 } else no_pins)
usart_moves u t before now true is p less out = rw one_is refl
  where
    one_is : (p == 1) ≡ false
    one_is = outside 1 2 1 p out (omega arith) (omega arith)
usart_moves u t before now false is p less out =
    ap (λ (d : Pad). if p == 0 then record untouched { ddoe = rxen u } else if p == 1 then d else untouched) (txd_kept u.transmitter u.transmitter.frame (format_of u) t (txen u) refl (sym is))
