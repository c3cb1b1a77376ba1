use Rattle.std.proofs.Common.{ℕ, List, Option, Some}
use Rattle.std.proofs.lemmas.Result.{err_from_is_err_and}
use Rattle.sim_base.specs.Outside.{Outside}
use Rattle.sim_outcome_model.proofs.ReadLemmas.{first_stops, got_both}
use Rattle.project_model.specs.Work.{WorkIn}
use Rattle.sim_io.specs.Outcomes.{outcome_of}
use Rattle.cli_project.specs.Works.{script_path, work_of}
use Rattle.cli_project.proofs.ProjectLemmas.{steady_work}
use Rattle.cli_replay.specs.Answer.{RepeatIn, RowsIn}
use Rattle.cli_replay.specs.Plays.{play_of}
use Rattle.cli_replay.proofs.replaying.read_play.Goals as goal

pub returns-in_err-work-clause-got : goal.returns-in_err-work-clause-got
returns-in_err-work-clause-got g c =
    let a : Outside = g.B.Bench.outside c.args.bench.now in
    let b : Outside = g.B.Bench.outside c.read_work.new.bench in
    let script : Option (List ℕ) = script_path c.args.scripted in
    let q = err_from_is_err_and c.from_residual.result c.from_residual.ensures.1 in
    let e = c.in_err-work.field-0.0 in
    rw (q.1, q.2) (first_stops (WorkIn c.args.scripted.folder.now script (Some c.args.wave.now)) (RowsIn c.args.wave.now c.args.n) (outcome_of e) a b c.in_err-work.ensures.got)

pub returns-clause-got : goal.returns-clause-got
returns-clause-got g c =
    let a : Outside = g.B.Bench.outside c.args.bench.now in
    let b : Outside = g.B.Bench.outside c.read_work.new.bench in
    let wave : List ℕ = c.args.wave.now in
    let script : Option (List ℕ) = script_path c.args.scripted in
    got_both (WorkIn c.args.scripted.folder.now script (Some wave)) (RowsIn wave c.args.n) (steady_work c.args.scripted.folder.now script (Some wave)) (work_of c.in_ok-work.work) play_of outcome_of c.read_rows.result a b b
    c.in_ok-work.ensures.ports c.in_ok-work.ensures.got (c.read_rows.ensures.got b)

pub returns-in_err-work-clause-repeated : goal.returns-in_err-work-clause-repeated
returns-in_err-work-clause-repeated g c =
    let a : Outside = g.B.Bench.outside c.args.bench.now in
    let b : Outside = g.B.Bench.outside c.read_work.new.bench in
    let script : Option (List ℕ) = script_path c.args.scripted in
    let q = err_from_is_err_and c.from_residual.result c.from_residual.ensures.1 in
    let e = c.in_err-work.field-0.0 in
    rw (q.1, q.2) (first_stops (WorkIn c.args.scripted.folder.now script (Some c.args.wave.now)) (RepeatIn c.args.wave.now c.args.n) (outcome_of e) a b c.in_err-work.ensures.got)

pub returns-clause-repeated : goal.returns-clause-repeated
returns-clause-repeated g c =
    let a : Outside = g.B.Bench.outside c.args.bench.now in
    let b : Outside = g.B.Bench.outside c.read_work.new.bench in
    let wave : List ℕ = c.args.wave.now in
    let script : Option (List ℕ) = script_path c.args.scripted in
    got_both (WorkIn c.args.scripted.folder.now script (Some wave)) (RepeatIn wave c.args.n) (steady_work c.args.scripted.folder.now script (Some wave)) (work_of c.in_ok-work.work) play_of outcome_of c.read_rows.result a b b
    c.in_ok-work.ensures.ports c.in_ok-work.ensures.got (c.read_rows.ensures.repeated b)
