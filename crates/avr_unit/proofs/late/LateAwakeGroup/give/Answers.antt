use Rattle.std.proofs.Common.{◌∙◌, ap}
use Rattle.avr_unit.specs.UnitMachine.{At}
use Rattle.avr_unit.specs.Signals.{signalled}
use Rattle.avr_unit.proofs.UnitLemmas.{late_here}
use Rattle.avr_unit.proofs.late.LateAwakeGroup.give.Goals as goal

pub returns-clause-state : goal.returns-clause-state
returns-clause-state g c =
    let m = g.U.Unit.machine in
    late_here m (g.U.Unit.shows c.give.new.unit) c.args.cycle _
    (c.give.ensures ∙ ap (λ (x : At g.U.Unit.State). record x { unit = signalled m c.args.signal x.unit x.cycle }) c.catch_up.ensures)
