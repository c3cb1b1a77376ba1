use Rattle.vcd_text.proofs.ChainLemmas.{others_still}
use Rattle.vcd_text.proofs.head.WaveHead.scope_of_nets.Goals as goal

pub returns-then-pins_rest : goal.returns-then-pins_rest
returns-then-pins_rest c = λ levels nets.
    others_still c.args.self.now.variables c.args.self.now.values levels c.args.drives.now c.args.one c.args.two (c.pins_rest.ensures c.if-pins_rest.true levels) nets
