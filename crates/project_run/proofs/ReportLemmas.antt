-- The writing of the report, behind the wave and the bytes.
use Rattle.std.proofs.Common.{◌≡◌, ◌∙◌, ℕ, List, [], Bool, Option, Some, None, if◌then◌else◌, inr, subst}
use Rattle.std.specs.Prelude.{is_some}
use Rattle.std.specs.Option.{option_map}
use Rattle.sim_base.specs.declared.bench.Port.{Port}
use Rattle.sim_base.specs.declared.bench.Port.TheVariants as ports
use Rattle.sim_base.specs.declared.bench.WriteEnd.{WriteEnd}
use Rattle.sim_base.specs.declared.bench.WriteEnd.TheVariants as writes
use Rattle.sim_base.specs.Outside.{Outside}
use Rattle.sim_outcome_model.specs.Outcome.{IsOn}
use Rattle.sim_outcome_model.proofs.WriteLemmas.{becomes, front_all, still_named}
use Rattle.board_outputs.specs.Run.{Outputs, named_text, texts_for}
use Rattle.board_outputs.specs.Ran.{Writes}
use Rattle.board_outputs.proofs.StageLemmas.{on_kept, begins_kept}
use Rattle.project_run.specs.Reports.{Reports}

module _ (out : Outputs) (t s r : List ℕ) (n : ℕ) (a : Outside) where
  pub reported : (m b : Outside) → Writes writes.Ok (texts_for out t s [] n) a m → Reports (is_some out.report) r writes.Ok m b → Writes writes.Ok (texts_for out t s r n) a b
  reported m b before reports = go out.report before.2.report reports
    where
      go : (o : Option (List ℕ)) → IsOn (option_map (named_text []) o) ports.Report a m → Reports (is_some o) r writes.Ok m b → Writes writes.Ok (record { serial = if out.serial then s else []; wave = option_map (named_text t) out.wave; report = option_map (named_text r) o; wakes = n }) a b
      go None on same = rw same (before.0, before.1, record { serial = before.2.serial; wave = before.2.wave; report = on })
      go (Some name) on (wrote, same, others) = (
        (others.written ports.Complaint (λ e. cc) ∙ before.0.0, others.faults ports.Complaint (λ e. cc) ∙ before.0.1),
        (others.reads ∙ before.1.0, faults),
        record {
          serial = others.written ports.Serial (λ e. cc) ∙ before.2.serial;
          wave = on_kept (option_map (named_text t) out.wave) ports.Wave a m b before.2.wave (others.written ports.Wave (λ e. cc), others.name ports.Wave (λ e. cc));
          report = (becomes (a.written ports.Report) (m.written ports.Report) (b.written ports.Report) r on.0 wrote.0, still_named ports.Report name a m b on.1 same);
        },
      )
        where
          faults : (p : Port) → b.faults p ≡ a.faults p
          faults ports.Wave = others.faults ports.Wave (λ e. cc) ∙ before.1.1 ports.Wave
          faults ports.Serial = others.faults ports.Serial (λ e. cc) ∙ before.1.1 ports.Serial
          faults ports.Report = wrote.1 ∙ before.1.1 ports.Report
          faults ports.Complaint = others.faults ports.Complaint (λ e. cc) ∙ before.1.1 ports.Complaint

  pub report_broke : (m b : Outside) → Writes writes.Ok (texts_for out t s [] n) a m → Reports (is_some out.report) r writes.Failed m b → Writes writes.Failed (texts_for out t s r n) a b
  report_broke m b before reports = go out.report before.2.report reports
    where
      go : (o : Option (List ℕ)) → IsOn (option_map (named_text []) o) ports.Report a m → Reports (is_some o) r writes.Failed m b → Writes writes.Failed (record { serial = if out.serial then s else []; wave = option_map (named_text t) out.wave; report = option_map (named_text r) o; wakes = n }) a b
      go None on none = absurd none
      go (Some name) on (wrote, same, others) = (
        (others.written ports.Complaint (λ e. cc) ∙ before.0.0, others.faults ports.Complaint (λ e. cc) ∙ before.0.1),
        inr (inr (rw (← before.1.1 ports.Report) wrote.1)),
        record {
          serial = (if out.serial then s else [], front_all (if out.serial then s else []), others.written ports.Serial (λ e. cc) ∙ before.2.serial);
          wave = begins_kept out.wave t t ports.Wave a m b (front_all t) before.2.wave (others.written ports.Wave (λ e. cc), others.name ports.Wave (λ e. cc));
          report = inr (wrote.0.0, wrote.0.1, becomes (a.written ports.Report) (m.written ports.Report) (b.written ports.Report) wrote.0.0 on.0 wrote.0.2, still_named ports.Report name a m b on.1 same);
        },
      )

  pub report_ends : (end : WriteEnd) (m b : Outside) → Writes writes.Ok (texts_for out t s [] n) a m → Reports (is_some out.report) r end m b → Writes end (texts_for out t s r n) a b
  report_ends writes.Ok m b before reports = reported m b before reports
  report_ends writes.Failed m b before reports = report_broke m b before reports

-- the report of parts that stand as others do
pub report_stands : {T : Type 0} (out : Outputs) (t s : List ℕ) (n : ℕ) (a : Outside) (report : List T → List ℕ) (stood stand : List T) (wanted : Bool) (end : WriteEnd) (m b : Outside) →
    stood ≡ stand → wanted ≡ is_some out.report → Writes writes.Ok (texts_for out t s [] n) a m → Reports wanted (report stood) end m b → Writes end (texts_for out t s (report stand) n) a b
report_stands {T = T} out t s n a report stood stand wanted end m b same asked before reports =
    report_ends out t s (report stand) n a end m b before
    (subst (λ (w : Bool). Reports w (report stand) end m b) asked (subst (λ (x : List T). Reports wanted (report x) end m b) same reports))
