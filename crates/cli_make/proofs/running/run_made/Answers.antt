use Rattle.std.proofs.Common.{◌∙◌, ℕ, List, subst}
use Rattle.sim_base.specs.declared.bench.Port.TheVariants as ports
use Rattle.sim_base.specs.Outside.{Outside}
use Rattle.sim_outcome_model.specs.Stop.{printed}
use Rattle.sim_outcome_model.specs.Work.{RanOn}
use Rattle.sim_io.specs.Outcomes.{outcome_of}
use Rattle.cli_project.specs.Works.{work_of}
use Rattle.cli_make.specs.Answer.{made_line}
use Rattle.cli_make.proofs.MakeLemmas.{ran_after, others_after, nothing_ran, nothing_else, one_part}
use Rattle.cli_make.proofs.running.run_made.Goals as goal

pub returns-in-Ok-clause-ran : goal.returns-in-Ok-clause-ran
returns-in-Ok-clause-ran g c =
    let a : Outside = g.B.Bench.outside c.args.bench.now in
    let m : Outside = g.B.Bench.outside c.counted_line.new.bench in
    let b : Outside = g.B.Bench.outside c.write_text.new.bench in
    let o = outcome_of c.write_text.result in
    let text : List ℕ = made_line c.args.seed c.args.n (work_of c.args.work) in
    let said = one_part c.as_bytes.result.now ∙ c.as_bytes.ensures.value ∙ c.in-Ok.ensures.line in
    ran_after a m b c.counted_line.ensures.ports ports.Report o (printed text)
    (subst (λ (t : List ℕ). RanOn ports.Report o (printed t) m b) said c.write_text.ensures.ran)

pub returns-in-Ok-clause-others : goal.returns-in-Ok-clause-others
returns-in-Ok-clause-others g c =
    others_after (g.B.Bench.outside c.args.bench.now) (g.B.Bench.outside c.counted_line.new.bench) (g.B.Bench.outside c.write_text.new.bench)
    c.counted_line.ensures.ports ports.Report c.counted_line.ensures.reads c.write_text.ensures.others

pub returns-in-Err-clause-ran : goal.returns-in-Err-clause-ran
returns-in-Err-clause-ran g c =
    nothing_ran ports.Report (printed (made_line c.args.seed c.args.n (work_of c.args.work))) (g.B.Bench.outside c.args.bench.now)
    (g.B.Bench.outside c.counted_line.new.bench) c.counted_line.ensures.ports

pub returns-in-Err-clause-others : goal.returns-in-Err-clause-others
returns-in-Err-clause-others g c =
    nothing_else ports.Report (g.B.Bench.outside c.args.bench.now) (g.B.Bench.outside c.counted_line.new.bench)
    c.counted_line.ensures.ports c.counted_line.ensures.reads
