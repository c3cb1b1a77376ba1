use Rattle.std.proofs.Common.{◌∙◌, ◌-◌, sym}
use Rattle.avr_unit.proofs.UnitLemmas.{late_quiet, quiet_resets}
use Rattle.avr_unit.proofs.late.LateAwakeGroup.resets.Goals as goal

pub returns : goal.returns
returns g c = λ l h.
    let m = g.U.Unit.machine in
    let s = g.U.Unit.shows c.args.self.now.unit in
    let t = c.args.cycle in
    c.resets.ensures ∙ sym (quiet_resets m g.met.U.Unit.laws s.unit s.cycle (t - s.cycle) t (late_quiet m s c.args.self.now.due t h.late))
