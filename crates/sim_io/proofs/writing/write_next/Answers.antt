use Rattle.sim_outcome_model.proofs.WriteLemmas.{wrote_next}
use Rattle.sim_io.proofs.writing.write_next.Goals as goal

pub returns-in-Ok-clause-next : goal.returns-in-Ok-clause-next
returns-in-Ok-clause-next g c = λ a text w. wrote_next c.write.result c.args.port a (g.B.Bench.outside c.args.bench.now) (g.B.Bench.outside c.write.new.self) text c.args.bytes.now (rw c.in-Ok.is at w) c.write.ensures.leaves c.write.ensures.cause
