use Rattle.chip_host.proofs.SetupLemmas.{init_all}
use Rattle.chip_host.proofs.calls.init_of.Goals as goal

pub returns-clause-typed : goal.returns-clause-typed
returns-clause-typed c = init_all c.args.valid.now.wasm c.args.valid.now.init c.chip_init.result c.module-module.ensures.valid.has_init c.chip_init.ensures
