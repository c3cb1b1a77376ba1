use Rattle.std.proofs.Common.{◌∙◌}
use Rattle.avr_unit.specs.Clock.{own_cycle}
use Rattle.avr_unit.proofs.PadLemmas.{below, joined_more}
use Rattle.avr_unit.proofs.powered.PoweredGroup.asked.Goals as goal

pub returns : goal.returns
returns g c = λ l t h.
    let s = c.args.self.now in
    let own = own_cycle s.clock t in
    let a = g.A.Group.machine.pad (g.A.Group.state s.awake t) c.args.pin in
    let b = g.B.Group.machine.pad (g.B.Group.state s.clocked own) c.args.pin in
    c.asked.ensures l t h.awake ∙ below a (c.asked-more.ensures l own h.clocked) ∙ joined_more a b c.args.others
