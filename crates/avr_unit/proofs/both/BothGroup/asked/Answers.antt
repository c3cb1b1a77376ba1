use Rattle.std.proofs.Common.{◌∙◌}
use Rattle.avr_unit.specs.Late.{late_state}
use Rattle.avr_unit.proofs.PadLemmas.{below, joined_more}
use Rattle.avr_unit.proofs.both.BothGroup.asked.Goals as goal

pub returns : goal.returns
returns g c = λ l t h.
    let a = g.U.Unit.machine.pad (late_state g.U.Unit.machine (g.U.Unit.shows c.args.self.now.first.unit) t) c.args.pin in
    let b = g.G.Group.machine.pad (g.G.Group.state c.args.self.now.second t) c.args.pin in
    c.asked.ensures l t h.0 ∙ below a (c.asked-more.ensures l t h.1) ∙ joined_more a b c.args.others
