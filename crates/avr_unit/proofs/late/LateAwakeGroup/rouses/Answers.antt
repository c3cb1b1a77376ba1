use Rattle.std.proofs.Common.{◌∙◌, ◌-◌, sym}
use Rattle.avr_unit.proofs.UnitLemmas.{late_quiet, quiet_rouses}
use Rattle.avr_unit.proofs.late.LateAwakeGroup.rouses.Goals as goal

pub returns : goal.returns
returns g c = λ t h.
    let m = g.U.Unit.machine in
    let s = g.U.Unit.shows c.args.self.now.unit in
    c.rouses.ensures ∙ sym (quiet_rouses m g.met.U.Unit.laws s.unit s.cycle (t - s.cycle) c.args.levels.now (late_quiet m s c.args.self.now.due t h.late))
