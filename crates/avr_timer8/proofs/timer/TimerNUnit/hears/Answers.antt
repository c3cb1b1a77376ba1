use Rattle.std.proofs.Common.{refl}
use Rattle.avr_timer8.proofs.timer.TimerNUnit.hears.Goals as goal

pub returns : goal.returns
returns g c = λ none n quiet. record { steps = λ due. refl; requests = refl; rouses = refl }
