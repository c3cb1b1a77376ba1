use Rattle.avr_twi.specs.Twi.{twi}
use Rattle.avr_twi.proofs.PlacedLemmas.{twi_same}
use Rattle.avr_twi.proofs.twi.TwiUnit.step.Goals as goal

pub returns-clause-pads : goal.returns-clause-pads
returns-clause-pads c = let s = c.args.self.now in twi_same (twi.step s.unit s.cycle c.args._before.now c.args.now.now) s.unit
