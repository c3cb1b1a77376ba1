use Rattle.std.proofs.Common.{◌∙◌, min, ap, sym}
use Rattle.avr_unit.specs.UnitMachine.{least}
use Rattle.avr_unit.specs.Both.{least-append}
use Rattle.avr_unit.specs.Late.{late_state}
use Rattle.avr_unit.proofs.both.BothGroup.request.Goals as goal

pub returns : goal.returns
returns g c = λ t h.
    let l = c.args.levels.now in
    let a = g.U.Unit.machine.requests (late_state g.U.Unit.machine (g.U.Unit.shows c.args.self.now.first.unit) t) l in
    let b = g.G.Group.machine.requests (g.G.Group.state c.args.self.now.second t) l in
    c.min.ensures ∙ ap (λ x. min x c.request-2.result) (c.request.ensures t h.0) ∙ ap (min (least a)) (c.request-2.ensures t h.1) ∙ sym (least-append a b)
