use Rattle.std.proofs.Common.{◌∙◌, Bool, ap}
use Rattle.std.specs.Prelude.{if◌then◌else◌}
use Rattle.part_law.specs.declared.span.Span.{Span}
use Rattle.part_law.specs.Spans.{no_pins}
use Rattle.avr_timer8.specs.declared.registers.Which.{Which}
use Rattle.avr_timer8.specs.Timer8Reach.{moves}
use Rattle.avr_timer8.proofs.timer.TimerNUnit.write_bit.Goals as goal

pub returns-clause-moved : goal.returns-clause-moved
returns-clause-moved g c =
    c.pins_if.ensures
    ∙ ap (λ (b : Bool). if b then c.pins.result else no_pins) c.moves.ensures
    ∙ ap (λ (w : Which). if moves w c.args.reg then c.pins.result else no_pins) c.number-3.ensures
    ∙ ap (λ (s : Span). if moves g.N.Numbered.number c.args.reg then s else no_pins) c.pins.ensures
