-- What `run FOLDER --us N [--script FILE] [--vcd FILE] [--report FILE] [--budget N]` is answered with (profile).
use Rattle.std.specs.Prelude.{◌*◌, List, ℕ, Option, None, Result, Ok, Err}
use Rattle.sim_base.specs.Outside.{Files}
use Rattle.sim_outcome_model.specs.Stop.{Stop, Texts}
use Rattle.sim_outcome_model.specs.Work.{Reading}
use Rattle.sim_outcome_model.specs.Happens.{AnswerOf}
use Rattle.any_part.specs.Start.{Contents}
use Rattle.project_model.specs.Work.{Work, WorkIn}
use Rattle.project_run.specs.Run.{run_texts}
use Rattle.board_outputs.specs.Run.{Outputs}
use Rattle.law_isolation.specs.PlayRun.{play_texts}
use Rattle.law_isolation.specs.Isolated.{Fact}

-- what the parts are loaded with, where each call into a chip gets so much fuel
abbrev pub contents : Work → ℕ → Contents
contents work budget = record { flash = work.flash; chips = work.chips; budget = budget }

-- the texts where they go, or what is wrong with the project or the script first; one microsecond has 16 cycles
unfoldable pub RunAnswer : List ℕ → ℕ → Option (List ℕ) → ℕ → Outputs → Files → Result Texts Stop → Type 0
RunAnswer folder us script budget out = AnswerOf (WorkIn folder script None) (λ work. run_texts out (contents work budget) work.plan (16 * us))

-- the same, where each chip of the board is replaced by a player of what it drives in the run
unfoldable pub PlayAnswer : List ℕ → ℕ → Option (List ℕ) → ℕ → Outputs → Files → Result Texts Stop → Type 0
PlayAnswer folder us script budget out = AnswerOf (WorkIn folder script None) (λ work. play_texts out (contents work budget) work.plan (16 * us))

-- the work that a folder and a script hold, of which this is true; or what is wrong first
abbrev pub WorkSuch : (Work → Type 0) → List ℕ → Option (List ℕ) → Reading Work
WorkSuch IsSo folder script files (Ok work) = WorkIn folder script None files (Ok work) × IsSo work
WorkSuch IsSo folder script files (Err stop) = WorkIn folder script None files (Err stop)

-- the texts of the run of a project, of which this is true
unfoldable pub AnswerSuch : Fact → List ℕ → ℕ → Option (List ℕ) → ℕ → Outputs → Files → Result Texts Stop → Type 0
AnswerSuch IsSo folder us script budget out =
    let work_read = WorkSuch (λ work. IsSo (contents work budget) work.plan (16 * us)) folder script in
    AnswerOf work_read (λ work. run_texts out (contents work budget) work.plan (16 * us))
