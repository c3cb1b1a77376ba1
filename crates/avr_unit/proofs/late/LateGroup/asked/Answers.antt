use Rattle.std.proofs.Common.{◌∙◌, ◌-◌, ap, sym}
use Rattle.avr_unit.specs.Pad.{joined}
use Rattle.avr_unit.specs.declared.pad.Pad.{Pad}
use Rattle.avr_unit.proofs.UnitLemmas.{late_quiet, quiet_pad}
use Rattle.avr_unit.proofs.late.LateGroup.asked.Goals as goal

pub returns : goal.returns
returns g c = λ l t h.
    let m = g.U.Unit.machine in
    let s = g.U.Unit.shows c.args.self.now.unit in
    c.asked.ensures ∙ ap (λ (q : Pad). joined q c.args.others) (sym (quiet_pad m g.met.U.Unit.laws s.unit s.cycle (t - s.cycle) c.args.pin (late_quiet m s c.args.self.now.due t h.late)))
