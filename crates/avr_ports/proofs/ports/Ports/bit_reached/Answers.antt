use Rattle.std.proofs.Common.{◌≡◌, ◌∙◌, ℕ, Bool, ap, sym, subst}
use Rattle.part_law.specs.declared.span.Span.{Span}
use Rattle.avr_unit.specs.Bits.{with_bit}
use Rattle.avr_ports.specs.Ports.{Ports, with_register_bit}
use Rattle.avr_ports.specs.PortReach.{Least, reached, bit_reached, bit_reached_least, kept_reached}
use Rattle.avr_ports.specs.declared.registers.Register.{Register}
use Rattle.avr_ports.proofs.ports.Ports.bit_reached.Goals as goal

is_least : (u : Ports) (r : Register) (k : ℕ) (x : Bool) (s : Span) → s ≡ bit_reached u r k x → Least (with_register_bit u r k x) u s
is_least u r k x s is = subst (λ (s : Span). Least (with_register_bit u r k x) u s) (sym is) (bit_reached_least u r k x)

pub returns-then-acts_by_ones : goal.returns-then-acts_by_ones
returns-then-acts_by_ones c =
    let a = c.args in
    let is = c.one_reached.ensures in
    record { value = is; least = is_least a.self.now.unit a.register a.bit a.value c.one_reached.result is }

pub returns-else-acts_by_ones : goal.returns-else-acts_by_ones
returns-else-acts_by_ones c =
    let a = c.args in
    let u = a.self.now.unit in
    let is : c.reached.result ≡ bit_reached u a.register a.bit a.value =
    c.reached.ensures.value
    ∙ ap (λ (y : ℕ). reached u a.register y) (c.with_bit.ensures ∙ ap (λ (y : ℕ). with_bit y a.bit a.value) c.kept.ensures)
    ∙ sym (kept_reached u a.register a.bit a.value (sym c.acts_by_ones.ensures ∙ c.if-acts_by_ones.false)) in
    record { value = is; least = is_least u a.register a.bit a.value c.reached.result is }
