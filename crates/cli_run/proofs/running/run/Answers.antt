use Rattle.std.proofs.Common.{◌≡◌, ◌+◌, ◌*◌, ℕ, List, Option, None, subst}
use Rattle.sim_base.specs.Outside.{Outside}
use Rattle.sim_outcome_model.specs.Stop.{Texts}
use Rattle.project_model.specs.Work.{Work, WorkIn}
use Rattle.chip_module.specs.declared.source.ChipSource.{ChipSource}
use Rattle.any_part.specs.Start.{Contents}
use Rattle.sim_outcome_model.specs.Outcome.{Accepted}
use Rattle.sim_outcome_model.proofs.EndLemmas.{stops_counts}
use Rattle.sim_io.specs.Outcomes.{outcome_of}
use Rattle.cli_project.specs.Works.{script_path, work_of}
use Rattle.board_outputs.specs.Outputs.{outputs_of}
use Rattle.board_outputs.specs.Ran.{Ran}
use Rattle.project_run.specs.Run.{run_texts, run_wakes}
use Rattle.board_outputs.proofs.RanLemmas.{ran_ends, ran_said, ran_counts}
use Rattle.law_isolation.specs.Isolated.{Isolated}
use Rattle.cli_run.specs.Answer.{RunAnswer, AnswerSuch}
use Rattle.cli_run.proofs.RunLemmas.{run_answer, run_stops, isolated_answer, isolated_stops}
use Rattle.cli_run.proofs.running.run.Goals as goal

pub returns-in-Ok : goal.returns-in-Ok
returns-in-Ok g c =
    let a : Outside = g.B.Bench.outside c.args.bench.now in
    let m : Outside = g.B.Bench.outside c.read_work.new.bench in
    let b : Outside = g.B.Bench.outside c.run_board.new.bench in
    let folder : List ℕ = c.args.scripted.folder.now in
    let us : ℕ = c.args.micros in
    let script : Option (List ℕ) = script_path c.args.scripted in
    let budget : ℕ = c.args.budget in
    let out = outputs_of c.args.outputs in
    let work : Work = work_of c.in-Ok.work in
    let o = outcome_of c.run_board.result in
    let steps : ℕ = c.args.steps.now in
    let has : List ChipSource → Contents = λ (chips : List ChipSource). record { flash = work.flash; chips = chips; budget = budget } in
    let texts : Texts = run_texts out (has work.chips) work.plan (16 * us) in
    let got = c.in-Ok.ensures.got in
    let same = c.in-Ok.ensures.ports in
    let is = run_answer folder us script budget out a.files work got.0 in
    let ran : Ran o texts m b = subst (λ (chips : List ChipSource). Ran o (run_texts out (has chips) work.plan (16 * us)) m b) c.as_slice.ensures c.run_board.ensures.ran in
    let counted : o ≡ Accepted → c.run_board.new.steps ≡ steps + texts.wakes =
    subst (λ (chips : List ChipSource). o ≡ Accepted → c.run_board.new.steps ≡ steps + run_wakes (has chips) work.plan (16 * us)) c.as_slice.ensures c.run_board.ensures.steps in
    record {
      ends = ran_ends (RunAnswer folder us script budget out) texts a m b got.1 same o is ran;
      isolated =
          ran_ends (AnswerSuch Isolated folder us script budget out) texts a m b got.1 same o
          (isolated_answer folder us script budget out a.files work c.in-Ok.ensures.sound.plan got.0) ran;
      counts = ran_counts (RunAnswer folder us script budget out) texts o a steps c.run_board.new.steps is counted;
      silent = ran_said (RunAnswer folder us script budget out) texts a m b got.1 same o ran;
    }

pub returns-in-Err-clause-ends : goal.returns-in-Err-clause-ends
returns-in-Err-clause-ends g c =
    let script : Option (List ℕ) = script_path c.args.scripted in
    run_stops c.args.scripted.folder.now c.args.micros script c.args.budget (outputs_of c.args.outputs) (outcome_of c.in-Err.outcome) _ _ c.in-Err.ensures.got c.in-Err.ensures.ports

pub returns-in-Err-clause-isolated : goal.returns-in-Err-clause-isolated
returns-in-Err-clause-isolated g c =
    let script : Option (List ℕ) = script_path c.args.scripted in
    isolated_stops c.args.scripted.folder.now c.args.micros script c.args.budget (outputs_of c.args.outputs) (outcome_of c.in-Err.outcome) _ _ c.in-Err.ensures.got c.in-Err.ensures.ports

pub returns-in-Err-clause-counts : goal.returns-in-Err-clause-counts
returns-in-Err-clause-counts g c =
    let script : Option (List ℕ) = script_path c.args.scripted in
    stops_counts (RunAnswer c.args.scripted.folder.now c.args.micros script c.args.budget (outputs_of c.args.outputs)) (WorkIn c.args.scripted.folder.now script None) (outcome_of c.in-Err.outcome)
    (g.B.Bench.outside c.args.bench.now) (g.B.Bench.outside c.read_work.new.bench) c.args.steps.now c.args.steps.now c.in-Err.ensures.got
