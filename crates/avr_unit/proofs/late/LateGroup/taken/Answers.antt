use Rattle.std.proofs.Common.{◌∙◌, ap}
use Rattle.avr_unit.specs.UnitMachine.{At}
use Rattle.avr_unit.proofs.UnitLemmas.{late_here}
use Rattle.avr_unit.proofs.late.LateGroup.taken.Goals as goal

pub returns-clause-state : goal.returns-clause-state
returns-clause-state g c =
    let m = g.U.Unit.machine in
    late_here m (g.U.Unit.shows c.taken.new.self) c.args.cycle _
    (c.taken.ensures ∙ ap (λ (x : At g.U.Unit.State). record x { unit = m.taken x.unit c.args.vector }) c.catch_up.ensures)
