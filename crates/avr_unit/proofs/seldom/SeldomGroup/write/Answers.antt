use Rattle.avr_unit.proofs.seldom.SeldomGroup.write.Goals as goal

pub returns-clause-stands : goal.returns-clause-stands
returns-clause-stands g c = record {
  here = c.write-moved.ensures.stands;
  due_is = c.due-self.ensures;
  request_is = c.request-self.ensures _ c.write-moved.ensures.stands;
}
