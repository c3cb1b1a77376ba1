use Rattle.std.proofs.Common.{◌∙◌, ◌++◌, Bool, List, [], min, ap, sym}
use Rattle.std.specs.Prelude.{if◌then◌else◌}
use Rattle.avr_unit.specs.UnitMachine.{least}
use Rattle.avr_unit.specs.Both.{least-append}
use Rattle.avr_unit.specs.Clock.{own_cycle}
use Rattle.avr_unit.specs.declared.request.Request.{Request}
use Rattle.avr_unit.proofs.powered.PoweredGroup.request.Goals as goal

pub returns-then-is_heard : goal.returns-then-is_heard
returns-then-is_heard g c = λ t h.
    let l = c.args.levels.now in
    let s = c.args.self.now in
    let a = g.A.Group.machine.requests (g.A.Group.state s.awake t) l in
    let b = g.B.Group.machine.requests (g.B.Group.state s.clocked (own_cycle s.clock t)) l in
    let none : List Request = [] in
    c.min.ensures ∙ ap (λ x. min x c.request-then-is_heard.result) (c.request.ensures t h.awake) ∙ ap (min (least a)) (c.request-then-is_heard.ensures (own_cycle s.clock t) h.clocked) ∙ sym (least-append a b)
    ∙ sym (ap (λ (x : Bool). least (if x then a ++ b else none)) (sym (c.is_heard.ensures t h.awake) ∙ c.if-is_heard.true))
