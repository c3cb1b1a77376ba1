-- The answer to `replay`.
use Rattle.std.proofs.Common.{◌≡◌, ◌⊎◌, ◌*◌, ◌+◌, ℕ, List, length, Option, Some, Result, Ok, Err, IfSome, ap, sym, ◌∙◌}
use Rattle.sim_base.specs.declared.fault.Refusal.{Refusal}
use Rattle.sim_base.specs.declared.wiring.Wiring.{Wiring}
use Rattle.sim_base.specs.declared.wiring.Input.{Input}
use Rattle.sim_base.specs.Outside.{Outside, SamePorts, Files}
use Rattle.text_model.specs.Wave.{Variable}
use Rattle.sim_outcome_model.specs.Stop.{◌>>=◌, Stop, Refused, refused_in}
use Rattle.sim_outcome_model.specs.Outcome.{Outcome, Stopped, OutOfMemory}
use Rattle.sim_outcome_model.specs.Work.{ReadStops}
use Rattle.sim_outcome_model.specs.Happens.{Ends}
use Rattle.sim_outcome_model.specs.Promises.{IsOne}
use Rattle.sim_outcome_model.proofs.ReadLemmas.{if_always, one_both, one_function}
use Rattle.sim_outcome_model.proofs.EndLemmas.{answered, answer_stops, one_answer}
use Rattle.part_law.specs.Machine.{Machine}
use Rattle.law_board.specs.Active.{active_pairs}
use Rattle.law_board.specs.Player.{DriveRows}
use Rattle.chip_module.specs.Sources.{pins_of}
use Rattle.board_outputs.specs.Variables.{board_variables}
use Rattle.project_model.specs.Work.{Work}
use Rattle.vcd_text.specs.Tracks.{wave_rows}
use Rattle.cli_project.proofs.ProjectLemmas.{one_work, rule_stops}
use Rattle.board_outputs.specs.Run.{Outputs}
use Rattle.cli_replay.specs.Answer.{Play, PlayIn, RowsIn, ReplayAnswer, replay_texts}

module _ (folder wave : List ℕ) (us : ℕ) (script : Option (List ℕ)) (out : Outputs) where
  pub one_replay : IsOne (ReplayAnswer folder wave us script out)
  unfolding ReplayAnswer
  one_replay = one_answer (PlayIn folder wave script (16 * us)) (replay_texts out (16 * us)) (one_both _ _ (one_work folder script (Some wave)) (λ work. one_function _))

  pub replay_answer : (told : Option Files) (play : Play) → IfSome told (λ files. PlayIn folder wave script (16 * us) files (Ok play)) →
      IfSome told (λ files. ReplayAnswer folder wave us script out files (Ok (replay_texts out (16 * us) play)))
  unfolding ReplayAnswer
  replay_answer = answered (PlayIn folder wave script (16 * us)) (replay_texts out (16 * us))

  pub replay_stops : (o : Outcome) (a b : Outside) → ReadStops o (PlayIn folder wave script (16 * us)) a b → SamePorts a b → Ends (ReplayAnswer folder wave us script out) o a b
  unfolding ReplayAnswer
  replay_stops = answer_stops (PlayIn folder wave script (16 * us)) (replay_texts out (16 * us))

-- the wakes of a run are those of one of the same wiring, inputs and states
pub same_wakes : {S : Type 0} (m : Machine S) (n before after : ℕ) (w x : Wiring) (inputs values : List Input) (ss ts : List S) → w ≡ x → inputs ≡ values → ss ≡ ts →
    after ≡ before + active_pairs m w inputs ss 0 n → after ≡ before + active_pairs m x values ts 0 n
same_wakes m n before after w x inputs values ss ts wired given begun is =
    is
    ∙ ap (λ (v : Wiring). before + active_pairs m v inputs ss 0 n) wired
    ∙ ap (λ (l : List Input). before + active_pairs m x l ss 0 n) given
    ∙ ap (λ l. before + active_pairs m x values l 0 n) begun

-- what a wave says hangs on what it shows, on how many pins there are and on its bytes
pub said_same : (shown by : List Variable) (count pins n : ℕ) (text bytes : List ℕ) (r : Result (List DriveRows) Refusal) → shown ≡ by → count ≡ pins → text ≡ bytes →
    wave_rows shown count n text ≡ r → wave_rows by pins n bytes ≡ r
said_same shown by count pins n text bytes r a b c is =
    ap (λ (l : List Variable). wave_rows l pins n bytes) (sym a)
    ∙ ap (λ (k : ℕ). wave_rows shown k n bytes) (sym b)
    ∙ ap (λ (l : List ℕ). wave_rows shown count n l) (sym c)
    ∙ is

-- what the wave of a work says
module _ (name : List ℕ) (n : ℕ) (work : Work) where
  abbrev said : Result (List DriveRows) Refusal
  said = wave_rows (board_variables (pins_of work.chips) work.plan) (length work.plan.wiring.net_of) n work.wave

  abbrev pub with_work : Result (List DriveRows) Refusal → Result Play Stop
  with_work r = refused_in name r >>= (λ rows. Ok (record { work = work; rows = rows }))

  pub rows_got : (rows : List DriveRows) (a : Outside) → said ≡ Ok rows → IfSome a.files (λ files. RowsIn name n work files (Ok (record { work = work; rows = rows })))
  rows_got rows a is = if_always a.files _ (λ files. ap with_work is)

  pub rows_stop : (r : Refusal) (o : Outcome) (a : Outside) → said ≡ Err r → (o ≡ Stopped (Refused name r)) ⊎ (o ≡ OutOfMemory) → ReadStops o (RowsIn name n work) a a
  rows_stop r o a is = rule_stops (with_work said) (Refused name r) o a (ap with_work is)
