use Rattle.std.proofs.Common.{◌∙◌, ◌-◌, ap, sym}
use Rattle.avr_unit.specs.UnitMachine.{least}
use Rattle.avr_unit.specs.Lagging.{quiet_requests}
use Rattle.avr_unit.proofs.UnitLemmas.{late_quiet}
use Rattle.avr_unit.proofs.late.LateGroup.request.Goals as goal

pub returns : goal.returns
returns g c = λ t h.
    let l = c.args._levels.now in
    let m = g.U.Unit.machine in
    let s = g.U.Unit.shows c.args.self.now.unit in
    h.requests ∙ sym (ap least (quiet_requests m g.met.U.Unit.laws s.unit s.cycle (t - s.cycle) l (late_quiet m s c.args.self.now.due t h.late)))
