use Rattle.sim_base.specs.declared.bench.Port.TheVariants as ports
use Rattle.sim_report.specs.Lines.{line_of}
use Rattle.sim_report.proofs.OmissionLemmas.{wrote_both}
use Rattle.sim_report.proofs.omissions.write_line.Goals as goal

pub returns-in-Ok-clause-next : goal.returns-in-Ok-clause-next
returns-in-Ok-clause-next g c = λ a text w. wrote_both c.write_report.result ports.Report text (line_of c.args.row.now) a (g.B.Bench.outside c.args.bench.now) (g.B.Bench.outside c.write_report.new.bench) (rw c.in-Ok.is at w) c.write_report.ensures.wrote
