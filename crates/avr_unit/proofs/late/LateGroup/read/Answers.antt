use Rattle.std.proofs.Common.{◌∙◌, ap}
use Rattle.avr_unit.specs.UnitMachine.{At}
use Rattle.avr_unit.specs.Late.{late_state}
use Rattle.avr_unit.proofs.UnitLemmas.{late_here, late_kept}
use Rattle.avr_unit.proofs.late.LateGroup.read.Goals as goal

pub returns-then-not-reading_keeps-clause-state : goal.returns-then-not-reading_keeps-clause-state
returns-then-not-reading_keeps-clause-state g c =
    let m = g.U.Unit.machine in
    late_here m (g.U.Unit.shows c.read-value.new.self) c.args.cycle _
    (c.read-value.ensures.state ∙ ap (λ (x : At g.U.Unit.State). record x { unit = m.read x.unit x.cycle c.args.reg }) c.catch_up.ensures)

pub returns-else-not-reading_keeps-clause-state : goal.returns-else-not-reading_keeps-clause-state
returns-else-not-reading_keeps-clause-state g c =
    let m = g.U.Unit.machine in
    late_here m (g.U.Unit.shows c.read-value.new.self) c.args.cycle _
    (c.read-value.ensures.state ∙ ap (λ (x : At g.U.Unit.State). record x { unit = m.read x.unit x.cycle c.args.reg }) c.catch_up.ensures)

pub returns-else-not-reading_keeps-clause-stands : goal.returns-else-not-reading_keeps-clause-stands
returns-else-not-reading_keeps-clause-stands g c =
    let m = g.U.Unit.machine in
    let s = g.U.Unit.shows c.args.self.now.unit in
    let t = c.args.cycle in
    late_kept m g.met.U.Unit.laws s (g.U.Unit.shows c.read-value.new.self) c.args.self.now.due c.args.self.now.request c.args.levels.now t c.requires.here
    (c.read-value.ensures.state ∙ ap (λ (x : At g.U.Unit.State). record x { unit = m.read x.unit x.cycle c.args.reg }) c.catch_up.ensures
    ∙ ap (λ (u : g.U.Unit.State). record { unit = u; cycle = t }) (c.reading_keeps.ensures c.if-not-reading_keeps.false (late_state m s t) t))
