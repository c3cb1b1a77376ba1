use Rattle.std.proofs.Common.{◌*◌, ℕ, List, Ok, IfSome}
use Rattle.sim_base.specs.Outside.{Outside}
use Rattle.text_model.specs.Hex.{hex_image}
use Rattle.sim_outcome_model.specs.Work.{IsFile}
use Rattle.sim_outcome_model.proofs.EndLemmas.{stops_counts}
use Rattle.sim_io.specs.Outcomes.{outcome_of}
use Rattle.board_outputs.proofs.RanLemmas.{ran_ends, ran_said, ran_counts}
use Rattle.cli_bare.specs.Bare.{bare_run}
use Rattle.cli_bare.specs.Answer.{BareAnswer}
use Rattle.cli_bare.proofs.AnswerLemmas.{bare_answer, bare_stops}
use Rattle.cli_bare.proofs.running.bare.Goals as goal

pub returns-in-Ok-clause-ends : goal.returns-in-Ok-clause-ends
returns-in-Ok-clause-ends g c =
    let a : Outside = g.B.Bench.outside c.args.bench.now in
    let hex : List ℕ = c.args.hex.now in
    let us : ℕ = c.args.micros in
    let is : IfSome a.files (λ files. BareAnswer hex us files (Ok (bare_run c.in-Ok.flash (16 * us)))) =
    bare_answer hex us a.files c.in-Ok.flash c.in-Ok.ensures.got.0 in
    ran_ends (BareAnswer hex us) (bare_run c.in-Ok.flash (16 * us)) a (g.B.Bench.outside c.read_document.new.bench) (g.B.Bench.outside c.run_bare.new.bench) c.in-Ok.ensures.got.1 c.in-Ok.ensures.ports (outcome_of c.run_bare.result) is c.run_bare.ensures.ran

pub returns-in-Ok-clause-counts : goal.returns-in-Ok-clause-counts
returns-in-Ok-clause-counts g c =
    let a : Outside = g.B.Bench.outside c.args.bench.now in
    let hex : List ℕ = c.args.hex.now in
    let us : ℕ = c.args.micros in
    let is : IfSome a.files (λ files. BareAnswer hex us files (Ok (bare_run c.in-Ok.flash (16 * us)))) =
    bare_answer hex us a.files c.in-Ok.flash c.in-Ok.ensures.got.0 in
    ran_counts (BareAnswer hex us) (bare_run c.in-Ok.flash (16 * us)) (outcome_of c.run_bare.result) a c.args.steps.now c.run_bare.new.steps is c.run_bare.ensures.steps

pub returns-in-Ok-clause-silent : goal.returns-in-Ok-clause-silent
returns-in-Ok-clause-silent g c =
    ran_said (BareAnswer c.args.hex.now c.args.micros) (bare_run c.in-Ok.flash (16 * c.args.micros)) (g.B.Bench.outside c.args.bench.now) (g.B.Bench.outside c.read_document.new.bench) (g.B.Bench.outside c.run_bare.new.bench)
    c.in-Ok.ensures.got.1 c.in-Ok.ensures.ports (outcome_of c.run_bare.result) c.run_bare.ensures.ran

pub returns-in-Err-clause-ends : goal.returns-in-Err-clause-ends
returns-in-Err-clause-ends g c = bare_stops c.args.hex.now c.args.micros (outcome_of c.in-Err.outcome) _ _ c.in-Err.ensures.got c.in-Err.ensures.ports

pub returns-in-Err-clause-counts : goal.returns-in-Err-clause-counts
returns-in-Err-clause-counts g c =
    stops_counts (BareAnswer c.args.hex.now c.args.micros) (IsFile c.args.hex.now hex_image) (outcome_of c.in-Err.outcome) (g.B.Bench.outside c.args.bench.now) (g.B.Bench.outside c.read_document.new.bench) c.args.steps.now c.args.steps.now c.in-Err.ensures.got
