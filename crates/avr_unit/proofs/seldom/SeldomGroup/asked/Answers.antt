use Rattle.avr_unit.proofs.seldom.SeldomGroup.asked.Goals as goal

pub returns : goal.returns
returns g c = λ l t h. c.asked.ensures l t h.here
