use Rattle.avr_unit.proofs.UnitLemmas.{late_quiet}
use Rattle.avr_unit.proofs.late.catch_up.Goals as goal

pub skip-requires-clause-quiet : goal.skip-requires-clause-quiet
skip-requires-clause-quiet g c = late_quiet g.U.Unit.machine (g.U.Unit.shows c.args.unit.now) c.args.due c.args.cycle c.requires.here
