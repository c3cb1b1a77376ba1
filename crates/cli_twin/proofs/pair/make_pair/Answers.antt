use Rattle.cli_twin.proofs.Common.{sym, work_of}
use Rattle.cli_twin.proofs.SharedLemmas.{shared}
use Rattle.cli_twin.proofs.pair.make_pair.Goals as goal

pub returns-in-None-clause-ready : goal.returns-in-None-clause-ready
returns-in-None-clause-ready c = record {
  sound_one = c.requires.sound_one;
  sound_other = c.requires.sound_other;
  shared = sym c.in-None.ensures;
  pins = (shared (work_of c.args.one) (work_of c.args.other) c.requires.sound_one.each c.requires.sound_other.each (sym c.in-None.ensures)).pins;
}
