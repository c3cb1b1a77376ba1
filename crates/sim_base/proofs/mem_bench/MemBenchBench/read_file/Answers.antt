use Rattle.std.proofs.Common.{subst}
use Rattle.sim_base.specs.Mem.{MemState, file_in}
use Rattle.sim_base.specs.Outside.{ReadsFile}
use Rattle.sim_base.proofs.MemLemmas.{told}
use Rattle.sim_base.proofs.mem_bench.MemBenchBench.read_file.Goals as goal

pub returns-clause-told : goal.returns-clause-told
returns-clause-told c = told c.copy_file.result c.args.self.now.files c.args.name.now c.args.limit c.copy_file.new.into.items (subst (λ (s : MemState). ReadsFile c.copy_file.result (file_in c.args.name.now s.files) c.args.limit c.copy_file.new.into.items) c.count_call.ensures.called c.copy_file.ensures.read)
