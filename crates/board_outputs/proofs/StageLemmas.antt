-- How far the writing of a run has come: the outputs are opened, then the wave and the bytes are written.
use Rattle.std.proofs.Common.{◌≡◌, ◌∙◌, ℕ, List, [], Bool, true, false, Option, Some, None, if◌then◌else◌, refl, ap, inl, inr}
use Rattle.std.specs.Prelude.{IsSome, is_some}
use Rattle.std.specs.Option.{option_map}
use Rattle.sim_base.specs.declared.bench.Port.{Port}
use Rattle.sim_base.specs.declared.bench.Port.TheVariants as ports
use Rattle.sim_base.specs.declared.bench.WriteEnd.{WriteEnd}
use Rattle.sim_base.specs.declared.bench.WriteEnd.TheVariants as writes
use Rattle.sim_base.specs.Causes.{Rose}
use Rattle.sim_base.specs.Outside.{Outside, SameOthers, IsKept, IsNamed, Opens, Grows, IsFront}
use Rattle.sim_outcome_model.specs.Stop.{Output, Texts}
use Rattle.sim_outcome_model.specs.Outcome.{IsOn, BeginsOn, IsFaultless, Hold, Begin, OutputRose}
use Rattle.sim_outcome_model.specs.Work.{SaidNothing}
use Rattle.sim_outcome_model.proofs.WriteLemmas.{becomes, grows_same, grows_more, front_none, front_all, still_named}
use Rattle.vcd_text.specs.Ports as wave
use Rattle.board_outputs.specs.Run.{Outputs, named_text, texts_for}
use Rattle.board_outputs.specs.Ran.{OpensNamed, Writes, WritesUpToReport}

-- a text that stands on a port, which is then left alone
pub on_kept : (o : Option Output) (p : Port) (a m b : Outside) → IsOn o p a m → IsKept p m b → IsOn o p a b
on_kept None p a m b on kept = (kept.0 ∙ on.0, kept.1 ∙ on.1)
on_kept (Some out) p a m b on kept = (kept.0 ∙ on.0, still_named p out.name a m b on.1 kept.1)

-- the same where more was to come
pub begins_kept : (o : Option (List ℕ)) (f t : List ℕ) (p : Port) (a m b : Outside) → IsFront f t → IsOn (option_map (named_text f) o) p a m → IsKept p m b → BeginsOn (option_map (named_text t) o) p a b
begins_kept None f t p a m b front on kept = (kept.0 ∙ on.0, kept.1 ∙ on.1)
begins_kept (Some name) f t p a m b front on kept = inr (f, front, kept.0 ∙ on.0, still_named p name a m b on.1 kept.1)

-- where nothing was opened yet
begins_not : (o : Option (List ℕ)) (t : List ℕ) (p : Port) (a b : Outside) → IsKept p a b → BeginsOn (option_map (named_text t) o) p a b
begins_not None t p a b kept = kept
begins_not (Some name) t p a b kept = inl kept

-- a port that was opened and then written on
on_grown : (o : Option (List ℕ)) (t : List ℕ) (p : Port) (a m b : Outside) → IsOn (option_map (named_text []) o) p a m → wave.IsOn (if is_some o then Some t else None) (m.written p) (b.written p) → b.name p ≡ m.name p →
    IsOn (option_map (named_text t) o) p a b
on_grown None t p a m b on grown same = (grown ∙ on.0, same ∙ on.1)
on_grown (Some name) t p a m b on grown same = (becomes (a.written p) (m.written p) (b.written p) t on.0 grown, still_named p name a m b on.1 same)

begins_grown : (o : Option (List ℕ)) (t : List ℕ) (p : Port) (a m b : Outside) → IsOn (option_map (named_text []) o) p a m → wave.BeginsOn (if is_some o then Some t else None) (m.written p) (b.written p) → b.name p ≡ m.name p →
    BeginsOn (option_map (named_text t) o) p a b
begins_grown None t p a m b on grown same = (grown ∙ on.0, same ∙ on.1)
begins_grown (Some name) t p a m b on grown same = inr (grown.0, grown.1, becomes (a.written p) (m.written p) (b.written p) grown.0 on.0 grown.2, still_named p name a m b on.1 same)

-- bytes that are wanted on Serial or not
serial_on : (serial : Bool) (bytes : List ℕ) (a m b : Option (List ℕ)) → Grows a m [] → wave.IsOn (if serial then Some bytes else None) m b → Grows a b (if serial then bytes else [])
serial_on true bytes a m b none is = grows_more a m b [] bytes bytes none is refl
serial_on false bytes a m b none is = is ∙ none

serial_begins : (serial : Bool) (bytes : List ℕ) (a m b : Option (List ℕ)) → Grows a m [] → wave.BeginsOn (if serial then Some bytes else None) m b →
    (front : List ℕ) × IsFront front (if serial then bytes else []) × Grows a b front
serial_begins true bytes a m b none is = (is.0, is.1, grows_more a m b [] is.0 is.0 none is.2 refl)
serial_begins false bytes a m b none is = ([], front_none [], is ∙ none)

-- so far these texts are written, each whole
pub record Stage (t : Texts) (a b : Outside) : Type 0 where
  pub files : b.files ≡ a.files
  pub faultless : IsFaultless a b
  pub hold : Hold t a b
  pub said : SaidNothing a b

-- the outputs that are opened: the wave, then the report too
abbrev pub with_wave : Outputs → Outputs
with_wave out = record { serial = false; wave = out.wave; report = None }

abbrev pub with_both : Outputs → Outputs
with_both out = record { serial = false; wave = out.wave; report = out.report }

module _ (out : Outputs) (n : ℕ) (a : Outside) where
  pub opened_wave : (b : Outside) → OpensNamed ports.Wave out.wave writes.Ok a b → Stage (texts_for (with_wave out) [] [] [] n) a b
  opened_wave b opens = go out.wave opens
    where
      go : (o : Option (List ℕ)) → OpensNamed ports.Wave o writes.Ok a b → Stage (texts_for (record { serial = false; wave = o; report = None }) [] [] [] n) a b
      go None same = rw same (record {
        files = refl;
        faultless = (refl, λ p. refl);
        hold = record { serial = grows_same _ _ refl; wave = (refl, refl); report = (refl, refl) };
        said = (refl, refl);
      })
      go (Some name) (opens, others) = record {
        files = others.files;
        faultless = (others.reads, faults);
        hold = record {
          serial = grows_same _ _ (others.written ports.Serial (λ e. cc));
          wave = (opens.1, opens.2);
          report = (others.written ports.Report (λ e. cc), others.name ports.Report (λ e. cc));
        };
        said = (others.written ports.Complaint (λ e. cc), others.faults ports.Complaint (λ e. cc));
      }
        where
          faults : (p : Port) → b.faults p ≡ a.faults p
          faults ports.Wave = opens.3
          faults ports.Serial = others.faults ports.Serial (λ e. cc)
          faults ports.Report = others.faults ports.Report (λ e. cc)
          faults ports.Complaint = others.faults ports.Complaint (λ e. cc)

  pub opened_both : (m b : Outside) → Stage (texts_for (with_wave out) [] [] [] n) a m → OpensNamed ports.Report out.report writes.Ok m b → Stage (texts_for (with_both out) [] [] [] n) a b
  opened_both m b stage opens = go out.report opens
    where
      go : (o : Option (List ℕ)) → OpensNamed ports.Report o writes.Ok m b → Stage (texts_for (record { serial = false; wave = out.wave; report = o }) [] [] [] n) a b
      go None same = rw same stage
      go (Some name) (opens, others) = record {
        files = others.files ∙ stage.files;
        faultless = (others.reads ∙ stage.faultless.0, faults);
        hold = record {
          serial = others.written ports.Serial (λ e. cc) ∙ stage.hold.serial;
          wave = on_kept (option_map (named_text []) out.wave) ports.Wave a m b stage.hold.wave (others.written ports.Wave (λ e. cc), others.name ports.Wave (λ e. cc));
          report = (opens.1 ∙ ap (option_map (λ (l : List ℕ). [])) stage.hold.report.0, rw (← stage.files) opens.2);
        };
        said = (others.written ports.Complaint (λ e. cc) ∙ stage.said.0, others.faults ports.Complaint (λ e. cc) ∙ stage.said.1);
      }
        where
          faults : (p : Port) → b.faults p ≡ a.faults p
          faults ports.Wave = others.faults ports.Wave (λ e. cc) ∙ stage.faultless.1 ports.Wave
          faults ports.Serial = others.faults ports.Serial (λ e. cc) ∙ stage.faultless.1 ports.Serial
          faults ports.Report = opens.3 ∙ stage.faultless.1 ports.Report
          faults ports.Complaint = others.faults ports.Complaint (λ e. cc) ∙ stage.faultless.1 ports.Complaint

module _ (out : Outputs) (t s : List ℕ) (n : ℕ) (a : Outside) where
  pub played : (m b : Outside) → Stage (texts_for (with_both out) [] [] [] n) a m → wave.Leaves (wave.texts (is_some out.wave) out.serial t s) m b → Writes writes.Ok (texts_for out t s [] n) a b
  played m b stage w = (
    (w.written ports.Complaint ∙ stage.said.0, w.faults ports.Complaint ∙ stage.said.1),
    (w.reads ∙ stage.faultless.0, λ p. w.faults p ∙ stage.faultless.1 p),
    record {
      serial = serial_on out.serial s (a.written ports.Serial) (m.written ports.Serial) (b.written ports.Serial) stage.hold.serial (w.written ports.Serial);
      wave = on_grown out.wave t ports.Wave a m b stage.hold.wave (w.written ports.Wave) (w.name ports.Wave);
      report = on_kept (option_map (named_text []) out.report) ports.Report a m b stage.hold.report (w.written ports.Report, w.name ports.Report);
    },
  )

-- what a fault leaves, whatever the report was to be
module _ (out : Outputs) (t s r : List ℕ) (n : ℕ) (a : Outside) where
  abbrev Broken : Outside → Type 0
  Broken b = Writes writes.Failed (texts_for out t s r n) a b

  pub wave_unopened : (b : Outside) → OpensNamed ports.Wave out.wave writes.Failed a b → Broken b
  wave_unopened b opens = go out.wave opens
    where
      go : (o : Option (List ℕ)) → OpensNamed ports.Wave o writes.Failed a b → Writes writes.Failed (record { serial = if out.serial then s else []; wave = option_map (named_text t) o; report = option_map (named_text r) out.report; wakes = n }) a b
      go None none = absurd none
      go (Some name) (opens, others) = (
        (others.written ports.Complaint (λ e. cc), others.faults ports.Complaint (λ e. cc)),
        inl opens.3,
        record {
          serial = ([], front_none (if out.serial then s else []), grows_same _ _ (others.written ports.Serial (λ e. cc)));
          wave = elim opens.1 [ inl same ↦ inl same | inr empty ↦ inr ([], front_none t, empty.0, empty.1) ];
          report = begins_not out.report r ports.Report a b (others.written ports.Report (λ e. cc), others.name ports.Report (λ e. cc));
        },
      )

  pub report_unopened : (m b : Outside) → Stage (texts_for (with_wave out) [] [] [] n) a m → OpensNamed ports.Report out.report writes.Failed m b → Broken b
  report_unopened m b stage opens = go out.report opens
    where
      go : (o : Option (List ℕ)) → OpensNamed ports.Report o writes.Failed m b → Writes writes.Failed (record { serial = if out.serial then s else []; wave = option_map (named_text t) out.wave; report = option_map (named_text r) o; wakes = n }) a b
      go None none = absurd none
      go (Some name) (opens, others) = (
        (others.written ports.Complaint (λ e. cc) ∙ stage.said.0, others.faults ports.Complaint (λ e. cc) ∙ stage.said.1),
        inr (inr (rw (← stage.faultless.1 ports.Report) opens.3)),
        record {
          serial = ([], front_none (if out.serial then s else []), others.written ports.Serial (λ e. cc) ∙ stage.hold.serial);
          wave = begins_kept out.wave [] t ports.Wave a m b (front_none t) stage.hold.wave (others.written ports.Wave (λ e. cc), others.name ports.Wave (λ e. cc));
          report = elim opens.1 [
            | inl same ↦ inl (same.0 ∙ stage.hold.report.0, same.1 ∙ stage.hold.report.1)
            | inr empty ↦ inr ([], front_none r, empty.0 ∙ ap (option_map (λ (l : List ℕ). [])) stage.hold.report.0, rw (← stage.files) empty.1)
          ];
        },
      )

  pub play_broke : (m b : Outside) → Stage (texts_for (with_both out) [] [] [] n) a m → wave.BreaksOff (wave.texts (is_some out.wave) out.serial t s) m b → Broken b
  play_broke m b stage w = (
    (w.written ports.Complaint ∙ stage.said.0, w.alone ports.Complaint refl ∙ stage.said.1),
    rose w.rose,
    record {
      serial = serial_begins out.serial s (a.written ports.Serial) (m.written ports.Serial) (b.written ports.Serial) stage.hold.serial (w.written ports.Serial);
      wave = begins_grown out.wave t ports.Wave a m b stage.hold.wave (w.written ports.Wave) (w.name ports.Wave);
      report = begins_kept out.report [] r ports.Report a m b (front_none r) stage.hold.report (w.written ports.Report, w.name ports.Report);
    },
  )
    where
      rose : (x : (p : Port) × IsSome (wave.texts (is_some out.wave) out.serial t s p) × Rose (m.faults p) (b.faults p)) → OutputRose a b
      rose (ports.Wave, some, up) = inl (rw (← stage.faultless.1 ports.Wave) up)
      rose (ports.Serial, some, up) = inr (inl (rw (← stage.faultless.1 ports.Serial) up))
      rose (ports.Report, some, up) = absurd (cc)
      rose (ports.Complaint, some, up) = absurd (cc)

-- how the run ends, by how the writing of its wave and its bytes ends
pub play_ends : (out : Outputs) (t s : List ℕ) (n : ℕ) (a m b : Outside) (end : WriteEnd) → Stage (texts_for (with_both out) [] [] [] n) a m →
    wave.Writes end (wave.texts (is_some out.wave) out.serial t s) m b → WritesUpToReport end out t s n a b
play_ends out t s n a m b writes.Ok stage w = played out t s n a m b stage w
play_ends out t s n a m b writes.Failed stage w = λ r. play_broke out t s r n a m b stage w

-- whether a file is named, wherever its name lies in memory
pub is_named : {X : Type 0} (named : X → List ℕ) (o : Option X) → is_some o ≡ is_some (option_map named o)
is_named named None = refl
is_named named (Some x) = refl

-- a report that was opened still is behind the wave and the bytes
pub still_opened : {X : Type 0} (named : X → List ℕ) (o : Option X) (on : Port → Option (List ℕ)) (a m b : Outside) (end : WriteEnd) →
    OpensNamed ports.Report (option_map named o) writes.Ok a m → wave.Writes end on m b → end ≡ writes.Ok → is_some o ≡ true → b.opened ports.Report ≡ true
still_opened named None on a m b end opens w ok some = absurd cc
still_opened named (Some x) on a m b writes.Ok opens w ok some = w.opened ports.Report ∙ opens.0.0
still_opened named (Some x) on a m b writes.Failed opens w ok some = absurd cc
