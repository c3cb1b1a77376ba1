use Rattle.std.proofs.Common.{◌∙◌, ap}
use Rattle.avr_unit.specs.Both.{first_of_two, pads}
use Rattle.avr_unit.specs.Clock.{clocked_at}
use Rattle.avr_unit.specs.Clocked.{clocked}
use Rattle.avr_unit.proofs.StepLemmas.{first_of_two-first_of_two}
use Rattle.avr_unit.proofs.powered.PoweredGroup.step.Goals as goal

pub returns-clause-byte : goal.returns-clause-byte
returns-clause-byte g c =
    let m = g.A.Group.machine in
    let n = clocked g.B.Group.machine in
    let t = c.args.cycle in
    let first = m.sends (g.A.Group.state c.args.self.now.awake t) t in
    let second = n.sends (clocked_at c.args.self.now.clock (g.B.Group.state c.args.self.now.clocked) t) t in
    c.step.ensures.byte ∙ ap (first_of_two first) c.step_clocked-more.ensures.byte ∙ first_of_two-first_of_two first second c.args.others.0

pub returns-clause-others : goal.returns-clause-others
returns-clause-others g c = λ p out. c.step_clocked-more.ensures.others p (c.step.ensures.others p out)

pub returns-clause-pads : goal.returns-clause-pads
returns-clause-pads g c = λ p less out.
    pads g.A.Group.machine (clocked g.B.Group.machine) _ _ _ _ (c.step.ensures.pads p less out) (c.step_clocked-more.ensures.pads p less (c.step.ensures.others p out))
