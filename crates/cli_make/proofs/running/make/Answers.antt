use Rattle.std.proofs.Common.{◌*◌, ℕ}
use Rattle.sim_base.specs.Outside.{Outside}
use Rattle.sim_outcome_model.proofs.EndLemmas.{stops_counts}
use Rattle.project_model.specs.Work.{Work}
use Rattle.sim_io.specs.Outcomes.{outcome_of}
use Rattle.cli_project.specs.Works.{work_of}
use Rattle.cli_project.proofs.ProjectLemmas.{same_here}
use Rattle.board_outputs.proofs.RanLemmas.{ran_counts}
use Rattle.cli_make.specs.Answer.{MadeIn, MakeAnswer, made_texts}
use Rattle.cli_make.proofs.MakeLemmas.{make_answer, make_stops, made_ends, made_silent}
use Rattle.cli_make.proofs.running.make.Goals as goal

pub returns-in-Ok : goal.returns-in-Ok
returns-in-Ok g c =
    let a : Outside = g.B.Bench.outside c.args.bench.now in
    let b : Outside = g.B.Bench.outside c.run_made.new.bench in
    let seed : ℕ = c.args.seed in
    let us : ℕ = c.args.micros in
    let work : Work = work_of c.in-Ok.work in
    let o = outcome_of c.run_made.result in
    let read = (c.in-Ok.ensures.got a).0 in
    record {
      ends = made_ends seed us work o a b read c.run_made.ensures.ran c.run_made.ensures.others;
      counts = ran_counts (MakeAnswer seed us) (made_texts seed (16 * us) work) o a c.args.steps.now c.run_made.new.steps (make_answer seed us a.files work read) c.run_made.ensures.steps;
      silent = made_silent a b c.run_made.ensures.others;
    }

pub returns-in-Err-clause-ends : goal.returns-in-Err-clause-ends
returns-in-Err-clause-ends g c =
    let a : Outside = g.B.Bench.outside c.args.bench.now in
    make_stops c.args.seed c.args.micros (outcome_of c.in-Err.end) a a (c.in-Err.ensures.got a) (same_here a)

pub returns-in-Err-clause-counts : goal.returns-in-Err-clause-counts
returns-in-Err-clause-counts g c =
    let a : Outside = g.B.Bench.outside c.args.bench.now in
    stops_counts (MakeAnswer c.args.seed c.args.micros) (MadeIn c.args.seed) (outcome_of c.in-Err.end) a a
    c.args.steps.now c.args.steps.now (c.in-Err.ensures.got a)
