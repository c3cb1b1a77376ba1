use Rattle.avr_unit.proofs.UnitLemmas.{first_none, first_some}
use Rattle.avr_unit.proofs.late.first_due.Goals as goal

pub returns-in-Some : goal.returns-in-Some
returns-in-Some g c = let s = g.U.Unit.shows c.args.unit.now in first_some g.U.Unit.machine s.unit s.cycle c.in-Some.cycle c.in-Some.ensures

pub returns-in-None : goal.returns-in-None
returns-in-None g c = let s = g.U.Unit.shows c.args.unit.now in first_none g.U.Unit.machine s.unit s.cycle c.requires.end c.in-None.ensures
