use Rattle.sim_base.specs.Mem.{opens_on}
use Rattle.sim_base.proofs.MemLemmas.{opens}
use Rattle.sim_base.proofs.mem_bench.MemBenchBench.open_port.Goals as goal

pub returns-clause-opens : goal.returns-clause-opens
returns-clause-opens c = opens c.args.self.now c.count_call-fails.new.self c.open_store.new.self c.args.port c.args.name.now (opens_on c.count_call-fails.result c.args.name.now) c.open_store.result c.count_call-fails.ensures.called c.open_store.ensures.answer c.open_store.ensures.leaves c.open_store.ensures.cause
