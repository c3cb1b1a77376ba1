use Rattle.avr_unit.proofs.seldom.SeldomGroup.write_bit.Goals as goal

pub returns-clause-stands : goal.returns-clause-stands
returns-clause-stands g c = record {
  here = c.write_bit-moved.ensures.stands;
  due_is = c.due-self.ensures;
  request_is = c.request-self.ensures _ c.write_bit-moved.ensures.stands;
}
