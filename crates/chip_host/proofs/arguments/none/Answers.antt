use Rattle.chip_host.proofs.ArgumentLemmas.{none_given}
use Rattle.chip_host.proofs.arguments.none.Goals as goal

pub returns : goal.returns
returns c = none_given c.args.args.now c.requires
