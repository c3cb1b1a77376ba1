use Rattle.std.proofs.Common.{◌∙◌, ap, sym, subst}
use Rattle.part_law.specs.declared.span.Span.{Span}
use Rattle.part_law.specs.Spans.{IsIn}
use Rattle.avr_unit.specs.UnitMachine.{At}
use Rattle.avr_usart.specs.Transmitter.{changes_line}
use Rattle.avr_usart.specs.Usart.{Usart}
use Rattle.avr_usart.proofs.PlacedLemmas.{usart_moves}
use Rattle.avr_usart.proofs.usart.UsartUnit.step.Goals as goal

pub returns-clause-pads : goal.returns-clause-pads
returns-clause-pads c = λ p less out.
    let s = c.args.self.now in
    usart_moves s.unit s.cycle c.args.before.now c.args.now.now c.changes_line.result (c.changes_line.ensures ∙ ap (λ (x : At Usart). changes_line x.unit.transmitter.frame) c.self.view_is) p less
    (λ h. out (subst (λ (x : Span). IsIn x p) (sym c.pins_if-moved.ensures) h))
