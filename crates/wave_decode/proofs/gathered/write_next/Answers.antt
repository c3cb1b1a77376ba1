use Rattle.sim_base.specs.declared.bench.Port.TheVariants as ports
use Rattle.wave_decode.proofs.WroteLemmas.{wrote_both}
use Rattle.wave_decode.proofs.gathered.write_next.Goals as goal

pub returns-in-Ok-clause-next : goal.returns-in-Ok-clause-next
returns-in-Ok-clause-next g c = λ a text w. wrote_both c.write_text.result ports.Report a (g.B.Bench.outside c.args.bench.now) (g.B.Bench.outside c.write_text.new.bench) text c.args.text.now (rw c.in-Ok.is at w) c.write_text.ensures.wrote
