use Rattle.std.proofs.Common.{◌∙◌, Bool, ap}
use Rattle.std.specs.Prelude.{if◌then◌else◌}
use Rattle.part_law.specs.Spans.{no_pins}
use Rattle.avr_usart.specs.UsartReach.{its_pins}
use Rattle.avr_usart.proofs.usart.UsartUnit.write.Goals as goal

pub returns-clause-moved : goal.returns-clause-moved
returns-clause-moved c = c.pins_if.ensures ∙ ap (λ (b : Bool). if b then its_pins else no_pins) c.moves.ensures
