use Rattle.std.proofs.Common.{◌∙◌, ap, sym}
use Rattle.avr_unit.specs.Pad.{joined}
use Rattle.avr_unit.specs.declared.pad.Pad.{Pad}
use Rattle.part_law.proofs.SpanLemmas.{not_in_span}
use Rattle.avr_unit.proofs.late.asked.Goals as goal

pub returns-then-has_pin : goal.returns-then-has_pin
returns-then-has_pin g c = c.joined.ensures ∙ ap (λ (q : Pad). joined q c.args.others) c.pad.ensures

pub returns-else-has_pin : goal.returns-else-has_pin
returns-else-has_pin g c =
    let out = not_in_span c.pins.result c.args.pin (sym c.has_pin.ensures ∙ c.if-has_pin.false) in
    ap (λ (q : Pad). joined q c.args.others) (sym (c.pins.ensures (g.U.Unit.shows c.args.unit.now).unit c.args.pin c.requires out))
