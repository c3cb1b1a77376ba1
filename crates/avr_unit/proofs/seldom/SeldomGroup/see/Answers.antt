use Rattle.std.proofs.Common.{◌∙◌, sym}
use Rattle.avr_unit.proofs.seldom.SeldomGroup.see.Goals as goal

pub returns-clause-stands : goal.returns-clause-stands
returns-clause-stands g c = λ l t h. record {
  here = c.see.ensures.stands l t h.here;
  due_is = h.due_is ∙ sym c.see.ensures.until;
  request_is = c.request-self.ensures t (c.see.ensures.stands l t h.here);
}
