-- From the steps of a call to what it does.
use Rattle.std.proofs.Common.{◌≡◌, ◌≢◌, ℕ, List, [], refl, ap, sym, ◌∙◌, Bool, true, false, Option, Some, None, Result, Ok, Err, inl, inr, IfSome}
use Rattle.std.specs.Option.{option_map}
use Rattle.std.specs.FinMap.{remove}
use Rattle.sim_base.specs.declared.bench.Port.{Port}
use Rattle.sim_base.specs.declared.bench.Port.TheVariants as ports
use Rattle.sim_base.specs.Outside.{Outside, SameOthers, SamePorts, Files, IsKept, IsNamed}
use Rattle.sim_outcome_model.specs.Stop.{Stop, Missing, Output, Texts, report_alone}
use Rattle.sim_outcome_model.specs.Work.{Reading, Is, ReadStops, RanOn, IsOneReading}
use Rattle.sim_outcome_model.specs.Outcome.{Outcome, Accepted, NoRequest, Stopped, ReadFailed, RequestFailed, WriteFailed, OutOfMemory, IsUntouched, IsOn, BeginsOn, Begin, status_of}
use Rattle.sim_outcome_model.specs.Promises.{IsOne, CountsWakes}
use Rattle.sim_outcome_model.specs.Happens.{Answer, AnswerOf, Ends, EndsBy, Counts, EndsUnasked, Happens}
use Rattle.sim_outcome_model.proofs.WriteLemmas.{grows_same, front_all}
use Rattle.sim_outcome_model.proofs.ReadLemmas.{if_some, one_function, one_both}

untouched_port : (p : Port) (a b : Outside) → SamePorts a b → IsUntouched p a b
untouched_port p a b same = ((same.written p, same.name p), same.opened p)

-- where a file that a request reads ends the work
pub stopped_by : {X : Type 0} (answer : Answer) (reading : Reading X) → ((files : Files) (s : Stop) → reading files (Err s) → answer files (Err s)) →
    (o : Outcome) (a b : Outside) → ReadStops o reading a b → SamePorts a b → Ends answer o a b
stopped_by answer reading is (Stopped t) a b s same = (if_some a.files _ _ (λ (files : Files) (e : reading files (Err t)). is files t e) s, λ p ne. untouched_port p a b same)
stopped_by answer reading is (ReadFailed n) a b s same = (
  if_some a.files _ _ (λ (files : Files) (e : reading (remove files n) (Err (Missing n))). is (remove files n) (Missing n) e) s.0,
  s.1,
  λ p ne. untouched_port p a b same,
)
stopped_by answer reading is OutOfMemory a b s same = λ p ne. untouched_port p a b same
stopped_by answer reading is _ a b s same = absurd s

-- and then no wakes are counted
pub stops_counts : {X : Type 0} (answer : Answer) (reading : Reading X) (o : Outcome) (a b : Outside) (before after : ℕ) → ReadStops o reading a b → Counts answer o a before after
stops_counts answer reading Accepted a b before after s = absurd s
stops_counts answer reading _ a b before after s = λ e. absurd (cc)

-- the same of a request that is answered by the texts of what is read
module _ {X : Type 0} (reading : Reading X) (texts : X → Texts) where
  pub answered : (told : Option Files) (x : X) → IfSome told (λ files. reading files (Ok x)) → IfSome told (λ files. AnswerOf reading texts files (Ok (texts x)))
  answered told x is = if_some told _ _ (λ (files : Files) (e : reading files (Ok x)). (Ok x, e, refl)) is

  pub answer_stops : (o : Outcome) (a b : Outside) → ReadStops o reading a b → SamePorts a b → Ends (AnswerOf reading texts) o a b
  answer_stops = stopped_by (AnswerOf reading texts) reading (λ files s e. (Err s, e, refl))

  pub only_texts : (t : Texts) → ((x : X) → texts x ≡ t) → (files : Files) (u : Texts) → AnswerOf reading texts files (Ok u) → u ≡ t
  only_texts t same files u (Ok x, e, g) = let is : texts x ≡ u = cc in sym is ∙ same x
  only_texts t same files u (Err s, e, g) = let bad : ◌≡◌ {A = Result Texts Stop} (Err s) (Ok u) = g in absurd (cc)

  pub one_answer : IsOneReading reading → IsOne (AnswerOf reading texts)
  one_answer one =
      let both = one_both reading (λ x. Is (λ (files : Files). Ok (texts x))) one (λ x. one_function (λ (files : Files). Ok (texts x))) in
      record {
        one_sided = both.one_sided;
        one_text = λ files t u e f. (let same : t ≡ u = both.one_given files t u e f in (ap (λ (x : Texts). x.serial) same, ap (λ (x : Texts). x.wave) same, ap (λ (x : Texts). x.report) same));
        one_stop = both.one_stop;
      }

-- what counts wakes for a request counts them for what is asked
pub counts_asked : {R : Type 0} (answers : R → Answer) (r : R) (o : Outcome) (a : Outside) (before after : ℕ) → Counts (answers r) o a before after → CountsWakes answers (status_of o) (Some r) a before after
counts_asked answers r Accepted a before after counts = λ e files told. let x = rw told at (counts refl) in (r, x.0, refl, x.1, x.2)
counts_asked answers r (Stopped (Missing n)) a before after counts = λ e. absurd (cc)
counts_asked answers r _ a before after counts = λ e. absurd (cc)

-- what holds of Report, and of all other ports
at_ports : (P : Port → Type 0) → P ports.Report → ((q : Port) → q ≢ ports.Report → P q) → (q : Port) → P q
at_ports P x f ports.Report = x
at_ports P x f q = f q (λ e. cc)

-- what a port has become since the files were read, it has become since before
module _ (a m b : Outside) (same : SamePorts a m) where
  pub kept_after : (p : Port) → IsKept p m b → IsKept p a b
  kept_after p is = (is.0 ∙ same.written p, is.1 ∙ same.name p)

  pub untouched_after : (p : Port) → IsUntouched p m b → IsUntouched p a b
  untouched_after p is = (kept_after p is.0, is.1 ∙ same.opened p)

  named_after : (p : Port) (name : List ℕ) → IsNamed p name m b → IsNamed p name a b
  named_after p name is = rw (← same.files) is

  pub on_after : (p : Port) (out : Option Output) → IsOn out p m b → IsOn out p a b
  on_after p None is = kept_after p is
  on_after p (Some out) is = (is.0 ∙ ap (option_map (λ (l : List ℕ). out.text)) (same.written p), named_after p out.name is.1)

  pub begins_after : (p : Port) (out : Option Output) → BeginsOn out p m b → BeginsOn out p a b
  begins_after p None is = kept_after p is
  begins_after p (Some out) (inl is) = inl (kept_after p is)
  begins_after p (Some out) (inr is) = inr (is.0, is.1, is.2 ∙ ap (option_map (λ (l : List ℕ). is.0)) (same.written p), named_after p out.name is.3)

module _ (answer : Answer) (a m b : Outside) (reads : m.read_faults ≡ a.read_faults) (same : SamePorts a m) where
  kept : SameOthers ports.Report m b → (q : Port) → q ≢ ports.Report → IsKept q a b
  kept others q ne = kept_after a m b same q (others.written q ne, others.name q ne)

  -- a text on Report alone was written after the files were read
  pub alone_ran : (o : Outcome) (out : Output) → IfSome a.files (λ (files : Files). answer files (Ok (report_alone out))) →
      RanOn ports.Report o out m b → SameOthers ports.Report m b → Ends answer o a b
  alone_ran Accepted out is ran others = (
    (others.reads ∙ reads, at_ports (λ q. b.faults q ≡ a.faults q) (ran.1 ∙ same.faults ports.Report) (λ q ne. others.faults q ne ∙ same.faults q)),
    if_some a.files _ _ (λ (files : Files) (e : answer files (Ok (report_alone out))). (
      report_alone out,
      e,
      record {
        serial = grows_same _ _ (kept others ports.Serial (λ e. cc)).0;
        wave = kept others ports.Wave (λ e. cc);
        report = on_after a m b same ports.Report (Some out) ran.0;
      },
    )) is,
  )
  alone_ran WriteFailed out is ran others = (
    inr (inr (rw (← same.faults ports.Report) ran.0)),
    if_some a.files _ _ (λ (files : Files) (e : answer files (Ok (report_alone out))). (
      report_alone out,
      e,
      record {
        serial = ([], front_all [], grows_same _ _ (kept others ports.Serial (λ e. cc)).0);
        wave = kept others ports.Wave (λ e. cc);
        report = begins_after a m b same ports.Report (Some out) ran.1;
      },
    )) is,
  )
  alone_ran OutOfMemory out is ran others =
      λ q ne. at_ports (λ q. IsUntouched q a b) (untouched_after a m b same ports.Report ran.0) (λ q other. (kept others q other, others.opened q other ∙ same.opened q)) q
  alone_ran _ out is ran others = absurd ran

module _ (a m b : Outside) (others : SameOthers ports.Complaint m b) where
  kept_on : (p : Port) → p ≢ ports.Complaint → IsKept p a m → IsKept p a b
  kept_on p ne is = (others.written p ne ∙ is.0, others.name p ne ∙ is.1)

  untouched_on : (p : Port) → p ≢ ports.Complaint → IsUntouched p a m → IsUntouched p a b
  untouched_on p ne is = (kept_on p ne is.0, others.opened p ne ∙ is.1)

  begun_on : (t : Option Output) (p : Port) → p ≢ ports.Complaint → BeginsOn t p a m → BeginsOn t p a b
  begun_on None p ne is = kept_on p ne is
  begun_on (Some out) p ne is = rw (others.written p ne, others.name p ne) is

  begun : (answer : Answer) → IfSome a.files (λ files. (t : Texts) × answer files (Ok t) × Begin t a m) → IfSome a.files (λ files. (t : Texts) × answer files (Ok t) × Begin t a b)
  begun answer x = if_some a.files _ _ (λ (files : Files) (y : (t : Texts) × answer files (Ok t) × Begin t a m). (
    y.0,
    y.1,
    record {
      serial = rw (others.written ports.Serial (λ e. cc)) y.2.serial;
      wave = begun_on y.0.wave ports.Wave (λ e. cc) y.2.wave;
      report = begun_on y.0.report ports.Report (λ e. cc) y.2.report;
    },
  )) x

  told_asked : (answer : Answer) (o : Outcome) → (o ≡ Accepted → b ≡ m) → Ends answer o a m → Ends answer o a b
  told_asked answer Accepted quiet h = rw (quiet refl) h
  told_asked answer NoRequest quiet h = absurd h
  told_asked answer (Stopped s) quiet h = (h.0, λ p ne. untouched_on p ne (h.1 p ne))
  told_asked answer (ReadFailed name) quiet h = (h.0, rw others.reads h.1, λ p ne. untouched_on p ne (h.2 p ne))
  told_asked answer WriteFailed quiet h = rw (others.faults ports.Wave (λ e. cc), others.faults ports.Serial (λ e. cc), others.faults ports.Report (λ e. cc)) (h.0, begun answer h.1)
  told_asked answer OutOfMemory quiet h = λ p ne. untouched_on p ne (h p ne)
  told_asked answer RequestFailed quiet h = absurd h

  told_by : (talks : Bool) (answer : Answer) (o : Outcome) → (o ≡ Accepted → b ≡ m) → EndsBy talks answer o a m → EndsBy talks answer o a b
  told_by false answer o quiet h = told_asked answer o quiet h
  told_by true answer RequestFailed quiet h = (rw others.reads h.0, begun answer h.1)
  told_by true answer Accepted quiet h = told_asked answer Accepted quiet h
  told_by true answer NoRequest quiet h = told_asked answer NoRequest quiet h
  told_by true answer (Stopped s) quiet h = told_asked answer (Stopped s) quiet h
  told_by true answer (ReadFailed name) quiet h = told_asked answer (ReadFailed name) quiet h
  told_by true answer WriteFailed quiet h = told_asked answer WriteFailed quiet h
  told_by true answer OutOfMemory quiet h = told_asked answer OutOfMemory quiet h

  told_unasked : (o : Outcome) → EndsUnasked o a m → EndsUnasked o a b
  told_unasked NoRequest h = λ p ne. untouched_on p ne (h p ne)
  told_unasked OutOfMemory h = λ p ne. untouched_on p ne (h p ne)
  told_unasked _ h = absurd h

-- what happened happens still once the line is on Complaint
pub told : {R : Type 0} (answers : R → Answer) (talks : R → Bool) (o : Outcome) (asked : Option R) (a m b : Outside) → (o ≡ Accepted → b ≡ m) → Happens answers talks o asked a m → SameOthers ports.Complaint m b →
    Happens answers talks o asked a b
told answers talks o None a m b quiet h others = told_unasked a m b others o h
told answers talks o (Some r) a m b quiet h others = told_by a m b others (talks r) (answers r) o quiet h
