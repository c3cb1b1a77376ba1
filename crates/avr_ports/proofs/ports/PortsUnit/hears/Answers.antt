use Rattle.std.proofs.Common.{◌∙◌, Bool, not, ap, sym}
use Rattle.avr_ports.proofs.DeafLemmas.{ports_unheard}
use Rattle.avr_ports.proofs.ports.PortsUnit.hears.Goals as goal

pub returns : goal.returns
returns c = λ none.
    let s = c.args.self.now in
    ports_unheard s.unit s.cycle c.args._before.now c.args._now.now (sym (ap (λ (b : Bool). not b) c.is_deaf.ensures) ∙ none)
