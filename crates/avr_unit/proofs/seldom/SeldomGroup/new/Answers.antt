use Rattle.avr_unit.proofs.seldom.SeldomGroup.new.Goals as goal

pub returns-clause-stands : goal.returns-clause-stands
returns-clause-stands g c = record {
  here = c.new-group.ensures.stands;
  due_is = c.due-due.ensures;
  request_is = c.request-request.ensures _ c.new-group.ensures.stands;
}
