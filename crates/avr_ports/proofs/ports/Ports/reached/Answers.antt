use Rattle.std.proofs.Common.{◌≡◌, ◌∙◌, ℕ, ap, sym, subst}
use Rattle.part_law.specs.declared.span.Span.{Span}
use Rattle.avr_ports.specs.PinsAt.{pins_at}
use Rattle.avr_ports.specs.Ports.{with_register}
use Rattle.avr_ports.specs.PortReach.{Least, first_pin, reached, reached_least}
use Rattle.avr_ports.proofs.ports.Ports.reached.Goals as goal

pub returns-clause-least : goal.returns-clause-least
returns-clause-least c =
    let u = c.args.self.now.unit in
    let r = c.args.register in
    let x = c.args.value in
    let is : c.pins_at.result ≡ reached u r x =
    c.pins_at.ensures ∙ ap (λ (f : ℕ). pins_at f c.turned.result) c.first_pin.ensures.value ∙ ap (λ (y : ℕ). pins_at (first_pin r) y) c.turned.ensures in
    subst (λ (s : Span). Least (with_register u r x) u s) (sym is) (reached_least u r x)
