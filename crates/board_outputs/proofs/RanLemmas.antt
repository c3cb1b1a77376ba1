-- The texts of a request, written after its files were read.
use Rattle.std.proofs.Common.{◌≡◌, ◌∙◌, ◌+◌, ℕ, Ok, IfSome}
use Rattle.sim_base.specs.declared.bench.Port.TheVariants as ports
use Rattle.sim_base.specs.Outside.{Outside, SamePorts, Files}
use Rattle.sim_outcome_model.specs.Stop.{Texts}
use Rattle.sim_outcome_model.specs.Outcome.{Outcome, Accepted, WriteFailed, OutOfMemory}
use Rattle.sim_outcome_model.specs.Work.{SaidNothing}
use Rattle.sim_outcome_model.specs.Happens.{Answer, Ends, Counts}
use Rattle.sim_outcome_model.proofs.ReadLemmas.{if_some}
use Rattle.sim_outcome_model.proofs.EndLemmas.{on_after, begins_after}
use Rattle.board_outputs.specs.Ran.{Ran}

module _ (answer : Answer) (t : Texts) (a m b : Outside) (reads : m.read_faults ≡ a.read_faults) (same : SamePorts a m) where
  pub ran_ends : (o : Outcome) → IfSome a.files (λ (files : Files). answer files (Ok t)) → Ran o t m b → Ends answer o a b
  ran_ends Accepted is ran = (
    (ran.1.0 ∙ reads, λ p. ran.1.1 p ∙ same.faults p),
    if_some a.files _ _ (λ (files : Files) (e : answer files (Ok t)). (
      t,
      e,
      record {
        serial = rw (← same.written ports.Serial) ran.2.serial;
        wave = on_after a m b same ports.Wave t.wave ran.2.wave;
        report = on_after a m b same ports.Report t.report ran.2.report;
      },
    )) is,
  )
  ran_ends WriteFailed is ran = (
    rw (← same.faults ports.Wave, ← same.faults ports.Serial, ← same.faults ports.Report) ran.1,
    if_some a.files _ _ (λ (files : Files) (e : answer files (Ok t)). (
      t,
      e,
      record {
        serial = rw (← same.written ports.Serial) ran.2.serial;
        wave = begins_after a m b same ports.Wave t.wave ran.2.wave;
        report = begins_after a m b same ports.Report t.report ran.2.report;
      },
    )) is,
  )
  ran_ends OutOfMemory is ran = λ p ne. rw ran ((same.written p, same.name p), same.opened p)
  ran_ends _ is ran = absurd ran

  pub ran_said : (o : Outcome) → Ran o t m b → SaidNothing a b
  ran_said Accepted ran = (ran.0.0 ∙ same.written ports.Complaint, ran.0.1 ∙ same.faults ports.Complaint)
  ran_said WriteFailed ran = (ran.0.0 ∙ same.written ports.Complaint, ran.0.1 ∙ same.faults ports.Complaint)
  ran_said OutOfMemory ran = rw ran (same.written ports.Complaint, same.faults ports.Complaint)
  ran_said _ ran = absurd ran

-- the wakes of a run that wrote all are those of its texts
pub ran_counts : (answer : Answer) (t : Texts) (o : Outcome) (a : Outside) (before after : ℕ) → IfSome a.files (λ (files : Files). answer files (Ok t)) → (o ≡ Accepted → after ≡ before + t.wakes) → Counts answer o a before after
ran_counts answer t o a before after is counted = λ e. if_some a.files _ _ (λ (files : Files) (x : answer files (Ok t)). (t, x, counted e)) is
