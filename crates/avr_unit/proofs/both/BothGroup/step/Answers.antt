use Rattle.std.proofs.Common.{◌∙◌, ap}
use Rattle.avr_unit.specs.Both.{first_of_two, pads}
use Rattle.avr_unit.specs.Late.{late_state}
use Rattle.avr_unit.proofs.StepLemmas.{first_of_two-first_of_two}
use Rattle.avr_unit.proofs.both.BothGroup.step.Goals as goal

pub returns-clause-byte : goal.returns-clause-byte
returns-clause-byte g c =
    let m = g.U.Unit.machine in
    let n = g.G.Group.machine in
    let t = c.args.cycle in
    let first = m.sends (late_state m (g.U.Unit.shows c.args.self.now.first.unit) t) t in
    let second = n.sends (g.G.Group.state c.args.self.now.second t) t in
    c.step.ensures.byte ∙ ap (first_of_two first) c.step-more.ensures.byte ∙ first_of_two-first_of_two first second c.args.others.0

pub returns-clause-others : goal.returns-clause-others
returns-clause-others g c = λ p out. c.step-more.ensures.others p (c.step.ensures.others p out)

pub returns-clause-pads : goal.returns-clause-pads
returns-clause-pads g c = λ p less out.
    pads g.U.Unit.machine g.G.Group.machine _ _ _ _ (c.step.ensures.pads p less out) (c.step-more.ensures.pads p less (c.step.ensures.others p out))
