use Rattle.std.proofs.Common.{◌∙◌, sym}
use Rattle.vcd_text.proofs.ChainLemmas.{nets_still}
use Rattle.vcd_text.proofs.head.WaveHead.scope_of.Goals as goal

pub returns-in-Some : goal.returns-in-Some
returns-in-Some c =
    let s = c.args.self.now in
    let told = c.requires (sym c.has_started.ensures ∙ c.if-has_started.true) in
    c.scope_of_nets.ensures c.args.levels.now
    (nets_still s.variables s.values told.0 c.args.levels.now c.args.drives.now c.args.changed.now c.in-Some.one c.in-Some.two (c.two_of.ensures (c.in-Some.one, c.in-Some.two) c.in-Some.is) told.1 told.2)
