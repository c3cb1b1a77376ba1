use Rattle.std.proofs.Common.{refl}
use Rattle.avr_adc.proofs.adc.AdcUnit.step.Goals as goal

pub returns-clause-pads : goal.returns-clause-pads
returns-clause-pads c = λ p less out. refl
