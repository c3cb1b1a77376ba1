use Rattle.std.proofs.Common.{◌∙◌, Bool, not, ap, sym, subst}
use Rattle.part_law.specs.declared.span.Span.{Span}
use Rattle.part_law.specs.Spans.{IsIn}
use Rattle.avr_spi.specs.contracts.spi.Spi.{the_view}
use Rattle.avr_spi.specs.declared.shifter.Shifter.{Shifter}
use Rattle.avr_spi.specs.Shifter.{differ, shifted}
use Rattle.avr_spi.specs.Spi.{spi, is_selected, ss_low, miso}
use Rattle.avr_spi.proofs.PlacedLemmas.{spi_same, step_moves}
use Rattle.avr_spi.proofs.spi.SpiUnit.step.Goals as goal

pub returns-then-is_selected-clause-pads : goal.returns-then-is_selected-clause-pads
returns-then-is_selected-clause-pads c = let s = c.args.self.now in spi_same (spi.step s.unit s.cycle c.args.before.now c.args.now.now) s.unit

pub returns-clause-pads : goal.returns-clause-pads
returns-clause-pads c = λ p less out.
    let s = c.args.self.now in
    let before = ss_low c.args.before.now in
    let now = ss_low c.args.now.now in
    let old = c.self.inside.shifter in
    let none = ap (λ (x : Bool). is_selected s.unit s.cycle x now) (sym c.ss_low.ensures) ∙ ap (is_selected s.unit s.cycle c.ss_low.result) (sym c.ss_low-2.ensures) ∙ sym c.is_selected.ensures ∙ c.if-is_selected.false in
    let after = c.step-keeps.ensures.state ∙ ap (shifted old old.transfer c.self.inside.cycle) c.miso.ensures in
    step_moves (the_view c.self.inside) s c.self.view_is before now (miso c.args.now.now) c.step-keeps.result none
    (c.step-keeps.ensures.keeps ∙ ap (λ (x : Shifter). not (differ old.mosi x.mosi)) after) p less
    (λ h. out (subst (λ (x : Span). IsIn x p) (sym c.moved_pins.ensures) h))
