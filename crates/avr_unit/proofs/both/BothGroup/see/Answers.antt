use Rattle.avr_unit.proofs.both.BothGroup.see.Goals as goal

pub returns-clause-stands : goal.returns-clause-stands
returns-clause-stands g c = λ l t h. (c.see.ensures.stands l t h.0, c.see-2.ensures.stands l t h.1)
