use Rattle.chip_host.proofs.SetupLemmas.{start_all}
use Rattle.chip_host.proofs.calls.start_of.Goals as goal

pub returns-clause-typed : goal.returns-clause-typed
returns-clause-typed c = start_all c.args.valid.now.wasm c.start.result c.module-module.ensures.valid.keeps c.start.ensures
