use Rattle.std.proofs.Common.{◌∙◌}
use Rattle.avr_unit.proofs.StepLemmas.{first_of_two-none}
use Rattle.avr_mcu.proofs.asking.step.Goals as goal

pub returns-clause-byte : goal.returns-clause-byte
returns-clause-byte g c = c.step-byte.ensures.byte ∙ first_of_two-none _
