use Rattle.std.proofs.Common.{refl}
use Rattle.avr_keep.proofs.keep.KeepUnit.hears.Goals as goal

pub returns : goal.returns
returns c = λ none n quiet. record { steps = λ due. refl; requests = refl; rouses = refl }
