use Rattle.avr_unit.proofs.UnitLemmas.{late_here}
use Rattle.avr_unit.proofs.late.LateGroup.new.Goals as goal

pub returns-clause-state : goal.returns-clause-state
returns-clause-state g c = late_here g.U.Unit.machine (g.U.Unit.shows c.new-unit.result) 0 _ c.new-unit.ensures
