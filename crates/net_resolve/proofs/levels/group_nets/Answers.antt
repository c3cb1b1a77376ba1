use Rattle.std.proofs.Common.{arith}
use Rattle.net_resolve.proofs.levels.group_nets.Goals as goal

pub returns : goal.returns
returns c = record {
  contacts_within = λ k p e. let at = c.requires.contacts k p e in (omega (arith, at.0, c.label_chosen.auto.labels), omega (arith, at.1, c.label_chosen.auto.labels));
  classes = c.label_chosen.ensures;
}
