use Rattle.std.proofs.Common.{refl}
use Rattle.avr_adc.proofs.adc.AdcUnit.hears.Goals as goal

pub returns : goal.returns
returns c = λ none n quiet. record { steps = λ due. refl; requests = refl; rouses = refl }
