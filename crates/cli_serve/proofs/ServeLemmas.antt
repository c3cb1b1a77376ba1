-- The answer to `serve`.
use Rattle.std.proofs.Common.{◌≡◌, ◌∙◌, ℕ, List, [], true, Option, None, Some, Ok, Err, IfSome, refl, sym}
use Rattle.sim_base.specs.declared.bench.Port.TheVariants as ports
use Rattle.sim_base.specs.Outside.{Outside, SamePorts, Files, IsFront}
use Rattle.sim_outcome_model.specs.Stop.{Stop, Texts}
use Rattle.sim_outcome_model.specs.Outcome.{Outcome, Accepted, NoRequest, Stopped, ReadFailed, RequestFailed, WriteFailed, OutOfMemory, Hold, Begin}
use Rattle.sim_outcome_model.specs.Work.{ReadStops}
use Rattle.sim_outcome_model.specs.Happens.{Answer, Ends, TalkEnds}
use Rattle.sim_outcome_model.specs.Promises.{IsOneStop}
use Rattle.sim_outcome_model.proofs.ReadLemmas.{if_some}
use Rattle.sim_outcome_model.proofs.EndLemmas.{stopped_by}
use Rattle.board_outputs.specs.Run.{Outputs, texts_for}
use Rattle.board_outputs.proofs.StageLemmas.{begins_kept}
use Rattle.project_model.specs.Work.{Work, WorkIn}
use Rattle.cli_project.proofs.ProjectLemmas.{one_work}
use Rattle.law_isolation.specs.Isolated.{Fact, Follows, Isolated}
use Rattle.cli_serve.specs.Answer.{ServeSuch, IsToldTalk, contents}

-- but for a request that could not be read, a conversation ends as all else
pub talk_ends : (answer : Answer) (o : Outcome) (a b : Outside) → Ends answer o a b → TalkEnds answer o a b
talk_ends answer Accepted a b h = h
talk_ends answer NoRequest a b h = h
talk_ends answer (Stopped s) a b h = h
talk_ends answer (ReadFailed name) a b h = h
talk_ends answer RequestFailed a b h = absurd h
talk_ends answer WriteFailed a b h = h
talk_ends answer OutOfMemory a b h = h

module _ (IsSo : Fact) (requests : Option (List (List ℕ))) (folder : List ℕ) (budget : ℕ) (script wave : Option (List ℕ)) where
  abbrev such : Answer
  such = ServeSuch IsSo requests folder budget script wave

  sided : (files : Files) (t : Texts) (s : Stop) → such files (Ok t) → such files (Err s) → ⊥
  unfolding ServeSuch
  sided files t s (Err stop, e, is) other = absurd (cc)
  sided files t s (Ok work, e, is) (Ok other, f, stopped) = stopped
  sided files t s (Ok work, e, is) (Err stop, f, same) = (one_work folder script None).one_sided files work stop e f

  stop_once : (files : Files) (t s : Stop) → such files (Err t) → such files (Err s) → t ≡ s
  unfolding ServeSuch
  stop_once files t s (Ok work, e, is) other = absurd is
  stop_once files t s (Err stop, e, is) (Ok work, f, so) = absurd so
  stop_once files t s (Err stop, e, is) (Err last, f, so) =
      let first : stop ≡ t = cc in
      let second : last ≡ s = cc in
      sym first ∙ (one_work folder script None).one_stop files stop last e f ∙ second

  pub one_serve : IsOneStop such
  one_serve = record { one_sided = sided; one_stop = stop_once }

  pub serve_stops : (o : Outcome) (a b : Outside) → ReadStops o (WorkIn folder script None) a b → SamePorts a b → TalkEnds such o a b
  unfolding ServeSuch
  serve_stops o a b stops same = talk_ends such o a b (stopped_by such (WorkIn folder script None) (λ files s e. (Err s, e, refl)) o a b stops same)

  pub serve_texts : (told : Option Files) (work : Work) (t : Texts) → IfSome told (λ files. WorkIn folder script None files (Ok work)) → IsToldTalk IsSo (contents work budget) work.plan wave t requests →
      IfSome told (λ files. such files (Ok t))
  unfolding ServeSuch
  serve_texts told work t read talk = if_some told _ _ (λ (files : Files) (e : WorkIn folder script None files (Ok work)). (Ok work, e, talk)) read

-- what is true of a conversation whose run is isolated
module _ (IsSo : Fact) (follows : Follows IsSo) where
  talk_such : (has : _) (plan : _) (wave : Option (List ℕ)) (t : Texts) (requests : Option (List (List ℕ))) → IsToldTalk Isolated has plan wave t requests → IsToldTalk IsSo has plan wave t requests
  talk_such has plan wave t None (lines, (lacks, (is, so))) = (lines, (lacks, (is, follows has _ _ so)))
  talk_such has plan wave t (Some lines) (lacks, (is, so)) = (lacks, (is, follows has _ _ so))

  pub such_serve : (requests : Option (List (List ℕ))) (folder : List ℕ) (budget : ℕ) (script wave : Option (List ℕ)) (files : Files) (t : Texts) →
      ServeSuch Isolated requests folder budget script wave files (Ok t) → ServeSuch IsSo requests folder budget script wave files (Ok t)
  unfolding ServeSuch
  such_serve requests folder budget script wave files t (Ok work, e, is) = (Ok work, e, talk_such (contents work budget) work.plan wave t requests is)
  such_serve requests folder budget script wave files t (Err stop, e, is) = absurd (cc)

-- where the answers go, and the wave
abbrev pub talk_outputs : Option (List ℕ) → Outputs
talk_outputs wave = record { serial = true; wave = wave; report = None }

-- what is on the ports is a first part of what was to come
module _ (wave : Option (List ℕ)) (n : ℕ) (a m c : Outside) (same : SamePorts (record m { requests = c.requests }) c) where
  pub held_begins : (f t g s : List ℕ) → IsFront f t → IsFront g s → Hold (texts_for (talk_outputs wave) f g [] n) a m → Begin (texts_for (talk_outputs wave) t s [] n) a c
  held_begins f t g s front said hold = record {
    serial = (g, said, same.written ports.Serial ∙ hold.serial);
    wave = begins_kept wave f t ports.Wave a m c front hold.wave (same.written ports.Wave, same.name ports.Wave);
    report = (same.written ports.Report ∙ hold.report.0, same.name ports.Report ∙ hold.report.1);
  }
