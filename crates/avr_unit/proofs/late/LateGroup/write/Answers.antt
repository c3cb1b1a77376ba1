use Rattle.std.proofs.Common.{◌∙◌, ap}
use Rattle.avr_unit.specs.Placed.{hull}
use Rattle.avr_unit.specs.UnitMachine.{At}
use Rattle.avr_unit.proofs.UnitLemmas.{late_here}
use Rattle.avr_unit.proofs.late.LateGroup.write.Goals as goal

pub returns-clause-moved : goal.returns-clause-moved
returns-clause-moved g c =
    c.hull.ensures ∙ ap (hull c.args.touched) (c.write-moved.ensures.moved ∙ ap (λ (x : At g.U.Unit.State). g.U.Unit.reach.writes x.unit c.args.reg c.args.value) c.catch_up.ensures)

pub returns-clause-state : goal.returns-clause-state
returns-clause-state g c =
    let m = g.U.Unit.machine in
    late_here m (g.U.Unit.shows c.write-moved.new.self) c.args.cycle _
    (c.write-moved.ensures.state ∙ ap (λ (x : At g.U.Unit.State). record x { unit = m.write x.unit x.cycle c.args.reg c.args.value }) c.catch_up.ensures)
