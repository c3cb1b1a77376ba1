use Rattle.avr_unit.proofs.seldom.SeldomGroup.request.Goals as goal

pub returns : goal.returns
returns g c = λ t h. h.request_is
