use Rattle.std.proofs.Common.{Bool, ◌∙◌, ap, sym}
use Rattle.std.specs.Prelude.{if◌then◌else◌}
use Rattle.avr_unit.proofs.both.BothGroup.reading_keeps.Goals as goal

pub returns-then-has : goal.returns-then-has
returns-then-has g c = λ h s t.
    let m = g.U.Unit.machine in
    let n = g.G.Group.machine in
    ap (λ (b : Bool). if b then (m.read s.0 t c.args.reg, s.1) else (s.0, n.read s.1 t c.args.reg)) (sym c.has.ensures ∙ c.if-has.true)
    ∙ ap (λ (x : g.U.Unit.State). (x, s.1)) (c.reading_keeps.ensures h s.0 t)

pub returns-else-has : goal.returns-else-has
returns-else-has g c = λ h s t.
    let m = g.U.Unit.machine in
    let n = g.G.Group.machine in
    ap (λ (b : Bool). if b then (m.read s.0 t c.args.reg, s.1) else (s.0, n.read s.1 t c.args.reg)) (sym c.has.ensures ∙ c.if-has.false)
    ∙ ap (λ (y : g.G.Group.State). (s.0, y)) (c.reading_keeps-else-has.ensures h s.1 t)
