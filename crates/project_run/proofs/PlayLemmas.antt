-- The texts of a run, by its board at the start.
use Rattle.std.proofs.Common.{◌≡◌, ℕ, List, Bool, None, subst}
use Rattle.sim_base.specs.declared.wiring.Wiring.{Wiring}
use Rattle.sim_base.specs.declared.wiring.Input.{Input}
use Rattle.sim_base.specs.Outside.{Outside}
use Rattle.text_model.specs.Wave.{Variable, wave_text}
use Rattle.sim_outcome_model.specs.Outcome.{Outcome}
use Rattle.part_law.specs.Machine.{Machine}
use Rattle.board_model.specs.Board.{bytes, states}
use Rattle.board_model.specs.Rows.{rows}
use Rattle.law_board.specs.Active.{active_pairs}
use Rattle.board_build.specs.declared.plan.PlanPart.{PlanPart}
use Rattle.board_report.specs.Report.{shown_text}
use Rattle.board_outputs.specs.Run.{Outputs, texts_for}
use Rattle.board_outputs.specs.Ran.{Ran}
use Rattle.board_outputs.proofs.PlayLemmas.{same_run}

-- the texts of a run are those of one of the same variables, wiring, inputs, states and parts
pub same_texts : {S : Type 0} (m : Machine S) (says : PlanPart → S → List ℕ) (chips : Bool) (o : Outcome) (out : Outputs) (n : ℕ) (a b : Outside)
    (vs us : List Variable) (w x : Wiring) (inputs values : List Input) (ss ts : List S) (ps qs : List PlanPart) → vs ≡ us → w ≡ x → inputs ≡ values → ss ≡ ts → ps ≡ qs →
    Ran o (texts_for out (wave_text vs (rows m w inputs None ss 0 n) n) (bytes m w inputs ss 0 n) (shown_text says chips n ps (states m w inputs ss 0 n)) (active_pairs m w inputs ss 0 n)) a b →
    Ran o (texts_for out (wave_text us (rows m x values None ts 0 n) n) (bytes m x values ts 0 n) (shown_text says chips n qs (states m x values ts 0 n)) (active_pairs m x values ts 0 n)) a b
same_texts {S = S} m says chips o out n a b vs us w x inputs values ss ts ps qs shown wired given begun named one =
    let T : List PlanPart → List Variable → Wiring → List Input → List S → Type 0 = λ ps vs w inputs ss.
    Ran o (texts_for out (wave_text vs (rows m w inputs None ss 0 n) n) (bytes m w inputs ss 0 n) (shown_text says chips n ps (states m w inputs ss 0 n)) (active_pairs m w inputs ss 0 n)) a b in
    subst (λ (l : List PlanPart). T l us x values ts) named (same_run (T ps) vs us w x inputs values ss ts shown wired given begun one)
