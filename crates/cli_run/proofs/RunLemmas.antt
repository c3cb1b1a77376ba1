-- The answer to `run`.
use Rattle.std.proofs.Common.{◌≡◌, ◌∙◌, ◌*◌, ℕ, List, Option, None, Result, Ok, Err, IfSome, refl, ap, sym}
use Rattle.sim_base.specs.Outside.{Outside, SamePorts, Files}
use Rattle.sim_outcome_model.specs.Stop.{Stop, Texts}
use Rattle.sim_outcome_model.specs.Outcome.{Outcome}
use Rattle.sim_outcome_model.specs.Work.{ReadStops}
use Rattle.sim_outcome_model.specs.Happens.{Ends}
use Rattle.sim_outcome_model.specs.Promises.{IsOne}
use Rattle.sim_outcome_model.proofs.ReadLemmas.{if_some}
use Rattle.sim_outcome_model.proofs.EndLemmas.{answered, answer_stops, one_answer, stopped_by}
use Rattle.board_build.specs.IsPlan.{IsPlan}
use Rattle.chip_module.specs.Sources.{pins_of}
use Rattle.project_model.specs.Work.{Work, WorkIn}
use Rattle.cli_project.proofs.ProjectLemmas.{one_work}
use Rattle.project_run.specs.Run.{run_texts}
use Rattle.board_outputs.specs.Run.{Outputs}
use Rattle.law_isolation.specs.PlayRun.{play_texts}
use Rattle.law_isolation.specs.Isolated.{Fact, Follows, Isolated}
use Rattle.law_isolation.proofs.Isolation.{isolated}
use Rattle.cli_run.specs.Answer.{contents, RunAnswer, PlayAnswer, AnswerSuch}

module _ (folder : List ℕ) (us : ℕ) (script : Option (List ℕ)) (budget : ℕ) (out : Outputs) where
  abbrev texts_by : Work → Texts
  texts_by work = run_texts out (contents work budget) work.plan (16 * us)

  pub one_run : IsOne (RunAnswer folder us script budget out)
  unfolding RunAnswer
  one_run = one_answer (WorkIn folder script None) texts_by (one_work folder script None)

  pub run_answer : (told : Option Files) (work : Work) → IfSome told (λ files. WorkIn folder script None files (Ok work)) → IfSome told (λ files. RunAnswer folder us script budget out files (Ok (run_texts out (contents work budget) work.plan (16 * us))))
  unfolding RunAnswer
  run_answer = answered (WorkIn folder script None) texts_by

  pub run_stops : (o : Outcome) (a b : Outside) → ReadStops o (WorkIn folder script None) a b → SamePorts a b → Ends (RunAnswer folder us script budget out) o a b
  unfolding RunAnswer
  run_stops = answer_stops (WorkIn folder script None) texts_by

  -- the work that was read is isolated, since `build` answered its plan
  pub isolated_answer : (told : Option Files) (work : Work) → IsPlan (pins_of work.chips) work.plan →
      IfSome told (λ files. WorkIn folder script None files (Ok work)) →
      IfSome told (λ files. AnswerSuch Isolated folder us script budget out files (Ok (run_texts out (contents work budget) work.plan (16 * us))))
  unfolding AnswerSuch
  isolated_answer told work is read =
      let so = isolated (contents work budget) work.plan is (16 * us) in
      if_some told _ _ (λ (files : Files) (e : WorkIn folder script None files (Ok work)). (Ok work, (e, so), refl)) read

  pub isolated_stops : (o : Outcome) (a b : Outside) → ReadStops o (WorkIn folder script None) a b → SamePorts a b →
      Ends (AnswerSuch Isolated folder us script budget out) o a b
  unfolding AnswerSuch
  isolated_stops = stopped_by (AnswerSuch Isolated folder us script budget out) (WorkIn folder script None) (λ files s e. (Err s, e, refl))

  -- what is true of a run that is isolated
  pub played_answer : (files : Files) (t : Texts) → AnswerSuch Isolated folder us script budget out files (Ok t) →
      PlayAnswer folder us script budget out files (Ok t)
  unfolding AnswerSuch PlayAnswer
  played_answer files t (Ok work, so, e) =
      let same : ◌≡◌ {A = Result Texts Stop} (Ok (play_texts out (contents work budget) work.plan (16 * us))) (Ok t) = ap Ok (sym (so.1.played out)) ∙ e in
      (Ok work, so.0, same)
  played_answer files t (Err s, so, e) = (Err s, so, e)

module _ (IsSo : Fact) (follows : Follows IsSo) (folder : List ℕ) (us : ℕ) (script : Option (List ℕ)) (budget : ℕ) (out : Outputs) where
  pub such_answer : (files : Files) (t : Texts) → AnswerSuch Isolated folder us script budget out files (Ok t) →
      AnswerSuch IsSo folder us script budget out files (Ok t)
  unfolding AnswerSuch
  such_answer files t (Ok work, so, e) = (Ok work, (so.0, follows (contents work budget) work.plan (16 * us) so.1), e)
  such_answer files t (Err s, so, e) = (Err s, so, e)
