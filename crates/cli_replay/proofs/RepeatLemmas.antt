-- A play of the wave that a run wrote has the texts of that run.
use Rattle.std.proofs.Common.{◌≡◌, ◌∙◌, ◌≤◌, ◌<◌, ◌*◌, ℕ, List, length, Option, None, Some, Result, Ok, Err, IfSome, ap, sym, refl, ◌⊎◌, inl, inr, arith}
use Rattle.sim_base.specs.Outside.{Outside, SamePorts, Files}
use Rattle.sim_base.specs.declared.fault.Refusal.{Refusal}
use Rattle.sim_base.specs.declared.limits.TheConstants.{LONGEST_RUN}
use Rattle.sim_outcome_model.specs.Stop.{Refused}
use Rattle.sim_outcome_model.specs.Outcome.{Outcome, Stopped, OutOfMemory}
use Rattle.sim_outcome_model.specs.Work.{Reading, ReadStops, Then}
use Rattle.sim_outcome_model.specs.Happens.{Ends}
use Rattle.sim_outcome_model.proofs.ReadLemmas.{if_some, if_always}
use Rattle.sim_outcome_model.proofs.EndLemmas.{answered, answer_stops}
use Rattle.text_model.specs.Wave.{wave_text}
use Rattle.board_model.specs.Board.{bytes, states}
use Rattle.board_model.specs.Rows.{rows}
use Rattle.law_board.specs.Player.{DriveRows, PlayerState}
use Rattle.law_board.specs.Play.{or_player}
use Rattle.board_build.specs.declared.plan.Plan.{Plan}
use Rattle.board_report.specs.Report.{play_part_text, rest_text}
use Rattle.chip_module.specs.Sources.{pins_of}
use Rattle.any_part.specs.AnyPart.{AnyState, any}
use Rattle.any_part.specs.Start.{Contents}
use Rattle.board_outputs.specs.Variables.{board_variables}
use Rattle.vcd_text.specs.Tracks.{wave_rows}
use Rattle.project_run.specs.Run.{run_bytes, run_wave}
use Rattle.board_outputs.specs.Run.{Outputs, texts_for}
use Rattle.law_isolation.specs.PlayRun.{play_bytes, play_rest, play_starts, play_wave}
use Rattle.law_replay.specs.Replayed.{IsReplayed, own_drives, part_of, run_rest}
use Rattle.law_replay.proofs.FuelLemmas.{starts_same}
use Rattle.law_replay.proofs.ReplayLaw.{replayed}
use Rattle.law_replay.proofs.VariableLemmas.{few_shown}
use Rattle.project_model.specs.Work.{WorkIn}
use Rattle.cli_project.specs.declared.project.Work as declared_works
use Rattle.cli_project.specs.Works.{IsSound, work_of}
use Rattle.cli_replay.specs.declared.replaying.Play as declared
use Rattle.cli_replay.specs.Answer.{IsOfNoRun, Play, RepeatAnswer, RepeatIn, RepeatsRun, RowsIn, contents, part_rows_of, play_wakes, replay_texts}
use Rattle.cli_replay.specs.Plays.{IsReady, play_of}
use Rattle.cli_replay.proofs.ReplayLemmas.{with_work}

-- texts for outputs, by the three that are written
texts_same : (out : Outputs) (wave wave_b bytes bytes_b rest rest_b : List ℕ) (wakes : ℕ) → wave ≡ wave_b → bytes ≡ bytes_b → rest ≡ rest_b →
    texts_for out wave bytes rest wakes ≡ texts_for out wave_b bytes_b rest_b wakes
texts_same out wave wave_b bytes bytes_b rest rest_b wakes a b c =
    ap (λ (w : List ℕ). texts_for out w bytes rest wakes) a
    ∙ ap (λ (x : List ℕ). texts_for out wave_b x rest wakes) b
    ∙ ap (λ (r : List ℕ). texts_for out wave_b bytes_b r wakes) c

-- what was read is one
one_read : (x y : List DriveRows) → ◌≡◌ {A = Result (List DriveRows) Refusal} (Ok x) (Ok y) → x ≡ y
one_read x y e = cc

module _ (n : ℕ) (some : 0 < n) (most : n ≤ LONGEST_RUN) (p : declared.Play) (ready : IsReady n p) where
  abbrev plan : Plan
  plan = p.work.plan

  abbrev has : ℕ → Contents
  has budget = record (contents (work_of p.work)) { budget = budget }

  abbrev part_rows : ℕ → List DriveRows
  part_rows = part_rows_of (play_of p)

  begun : (budget : ℕ) → play_starts (has budget) plan n part_rows ≡ play_starts (has 0) plan n part_rows
  begun budget = starts_same (has budget) (has 0) plan ready.sound.plan ready.sound.plan refl part_rows

  law : (budget : ℕ) → IsReplayed (has budget) plan n (own_drives (has budget) plan n)
  law budget = replayed (has budget) plan ready.sound.plan n (few_shown p.work.chips plan ready.sound.few_pins ready.sound.plan) (omega (arith, most)) some

  module _ (budget : ℕ) (is : p.work.wave.items ≡ run_wave (has budget) plan n) where
    drives_same : own_drives (has budget) plan n ≡ p.rows
    drives_same =
        one_read (own_drives (has budget) plan n) p.rows
        (sym (law budget).read ∙ sym (ap (λ (w : List ℕ). wave_rows (board_variables (pins_of p.work.chips) plan) (length plan.wiring.net_of) n w) is) ∙ ready.said)

    abbrev Starts : Type 0
    Starts = List (AnyState ⊎ PlayerState)

    wave_same : play_wave (has 0) plan n part_rows ≡ p.work.wave.items
    wave_same =
        sym (is ∙ (law budget).wave ∙ ap (λ (d : List DriveRows). play_wave (has budget) plan n (part_of (has budget) plan d)) drives_same
        ∙ ap (λ (ss : Starts). wave_text (board_variables (pins_of p.work.chips) plan) (rows (or_player any) plan.wiring plan.inputs None ss 0 n) n) (begun budget))

    bytes_same : play_bytes (has 0) plan n part_rows ≡ run_bytes (has budget) plan n
    bytes_same =
        sym ((law budget).bytes ∙ ap (λ (d : List DriveRows). play_bytes (has budget) plan n (part_of (has budget) plan d)) drives_same
        ∙ ap (λ (ss : Starts). bytes (or_player any) plan.wiring plan.inputs ss 0 n) (begun budget))

    rest_same : play_rest (has 0) plan n part_rows ≡ run_rest (has budget) plan n
    rest_same =
        sym ((law budget).rest ∙ ap (λ (d : List DriveRows). play_rest (has budget) plan n (part_of (has budget) plan d)) drives_same
        ∙ ap (λ (ss : Starts). rest_text play_part_text n plan.parts (states (or_player any) plan.wiring plan.inputs ss 0 n)) (begun budget))

  pub repeats : RepeatsRun n (play_of p)
  repeats = λ budget out is.
      texts_same out (play_wave (has 0) plan n part_rows) p.work.wave.items (play_bytes (has 0) plan n part_rows) (run_bytes (has budget) plan n)
      (play_rest (has 0) plan n part_rows) (run_rest (has budget) plan n) (play_wakes (play_of p) n)
      (wave_same budget is) (bytes_same budget is) (rest_same budget is)

-- What the wave of a work says, where the work is ready for a run of n cycles.
module _ (name : List ℕ) (n : ℕ) (some : 0 < n) (most : n ≤ LONGEST_RUN) where
  pub repeats_got : (p : declared.Play) → IsReady n p → (a : Outside) → IfSome a.files (λ files. RowsIn name n (work_of p.work) files (Ok (play_of p))) →
      IfSome a.files (λ files. RepeatIn name n (work_of p.work) files (Ok (play_of p)))
  repeats_got p ready a read = if_some a.files _ _ (λ (files : Files) (e : RowsIn name n (work_of p.work) files (Ok (play_of p))). (e, repeats n some most p ready)) read

  module _ (work : declared_works.Work) (sound : IsSound (work_of work)) where
    abbrev said : Result (List DriveRows) Refusal
    said = wave_rows (board_variables (pins_of work.chips) work.plan) (length work.plan.wiring.net_of) n work.wave.items

    refused_not : (rows : List DriveRows) (r : Refusal) → said ≡ Ok rows → said ≡ Err r → ⊥
    refused_not rows r ok bad = let two : ◌≡◌ {A = Result (List DriveRows) Refusal} (Ok rows) (Err r) = sym ok ∙ bad in absurd cc

    -- a wave that is refused is of no run, since that of a run is read
    of_no_run : (r : Refusal) → said ≡ Err r → IsOfNoRun n (work_of work)
    of_no_run r bad = λ budget is.
        let has : Contents = record (contents (work_of work)) { budget = budget } in
        let law : IsReplayed has work.plan n (own_drives has work.plan n) = replayed has work.plan sound.plan n (few_shown work.chips work.plan sound.few_pins sound.plan) (omega (arith, most)) some in
        refused_not (own_drives has work.plan n) r
        (ap (λ (w : List ℕ). wave_rows (board_variables (pins_of work.chips) work.plan) (length work.plan.wiring.net_of) n w) is ∙ law.read) bad

    pub repeats_stop : (r : Refusal) (o : Outcome) (a : Outside) → said ≡ Err r → (o ≡ Stopped (Refused name r)) ⊎ (o ≡ OutOfMemory) → ReadStops o (RepeatIn name n (work_of work)) a a
    repeats_stop r o a bad (inl is) = rw is (if_always a.files _ (λ files. (ap (with_work name n (work_of work)) bad, of_no_run r bad)))
    repeats_stop r o a bad (inr is) = rw is tt

-- the answer of such a play
module _ (folder wave : List ℕ) (us : ℕ) (script : Option (List ℕ)) (out : Outputs) where
  abbrev Repeating : Reading Play
  Repeating = Then (WorkIn folder script (Some wave)) (RepeatIn wave (16 * us))

  pub repeat_answer : (told : Option Files) (play : Play) → IfSome told (λ files. Repeating files (Ok play)) →
      IfSome told (λ files. RepeatAnswer folder wave us script out files (Ok (replay_texts out (16 * us) play)))
  unfolding RepeatAnswer
  repeat_answer = answered Repeating (replay_texts out (16 * us))

  pub repeat_stops : (o : Outcome) (a b : Outside) → ReadStops o Repeating a b → SamePorts a b → Ends (RepeatAnswer folder wave us script out) o a b
  unfolding RepeatAnswer
  repeat_stops = answer_stops Repeating (replay_texts out (16 * us))
