use Rattle.std.proofs.Common.{ap}
use Rattle.vcd_text.specs.Variables.{source_of}
use Rattle.vcd_text.proofs.chains.link.Goals as goal

pub bounds-first-net : goal.bounds-first-net
bounds-first-net c = c.requires.net c.in-Net.net (ap source_of c.in-Net.is)

pub bounds-first-net-in-Net : goal.bounds-first-net-in-Net
bounds-first-net-in-Net c = c.requires.net c.in-Net.net (ap source_of c.in-Net.is)
