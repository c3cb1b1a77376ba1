-- What `replay FOLDER WAVE --us N [--script FILE] [--vcd FILE] [--report FILE]` is answered with (profile).
use Rattle.std.specs.Prelude.{◌≡◌, ◌≢◌, ◌*◌, ℕ, List, length, Option, Some, Result, Ok, Err}
use Rattle.sim_base.specs.Outside.{Files}
use Rattle.sim_outcome_model.specs.Stop.{◌>>=◌, Stop, Texts, refused_in}
use Rattle.sim_outcome_model.specs.Work.{Reading, Is, Then}
use Rattle.sim_outcome_model.specs.Happens.{AnswerOf}
use Rattle.law_board.specs.Active.{active_pairs}
use Rattle.law_board.specs.Player.{DriveRows}
use Rattle.law_board.specs.Play.{or_player}
use Rattle.chip_module.specs.Sources.{pins_of}
use Rattle.any_part.specs.AnyPart.{any}
use Rattle.any_part.specs.Start.{Contents}
use Rattle.board_outputs.specs.Variables.{board_variables}
use Rattle.project_model.specs.Work.{Work, WorkIn}
use Rattle.vcd_text.specs.Tracks.{wave_rows}
use Rattle.part_played.specs.Start.{rows_of_part}
use Rattle.project_run.specs.Run.{run_bytes, run_wave}
use Rattle.board_outputs.specs.Run.{Outputs, texts_for}
use Rattle.law_isolation.specs.PlayRun.{play_starts, play_wave, play_bytes, play_rest}
use Rattle.law_replay.specs.Replayed.{run_rest}

-- a project, and what a wave says of each pin of its board
pub record Play : Type 0 where
  pub work : Work
  pub rows : List DriveRows

-- what the wave of a work says in so many cycles, or the first rule of waves that it breaks
abbrev pub RowsIn : List ℕ → ℕ → Work → Reading Play
RowsIn wave n work = Is (λ files.
    refused_in wave (wave_rows (board_variables (pins_of work.chips) work.plan) (length work.plan.wiring.net_of) n work.wave) >>= (λ rows. Ok (record { work = work; rows = rows })))

-- The wave is read behind the script, and what it says is looked at behind the rules of the board.
abbrev pub PlayIn : List ℕ → List ℕ → Option (List ℕ) → ℕ → Reading Play
PlayIn folder wave script n = Then (WorkIn folder script (Some wave)) (RowsIn wave n)

-- what the parts are loaded with; no call into a chip is made, so its fuel does not matter
abbrev pub contents : Work → Contents
contents work = record { flash = work.flash; chips = work.chips; budget = 0 }

-- the rows of the pins of each part
abbrev pub part_rows_of : Play → ℕ → List DriveRows
part_rows_of play = rows_of_part (pins_of play.work.chips) play.work.plan play.rows

-- how many pairs of a cycle and a part there are in which the part is active, players among them
abbrev pub play_wakes : Play → ℕ → ℕ
play_wakes play n =
    active_pairs (or_player any) play.work.plan.wiring play.work.plan.inputs (play_starts (contents play.work) play.work.plan n (part_rows_of play)) 0 n

-- the texts of the board with a player of the wave's rows in place of each chip; the report has no lines of chips
abbrev pub replay_texts : Outputs → ℕ → Play → Texts
replay_texts out n play =
    let has = contents play.work in
    let rows = part_rows_of play in
    texts_for out (play_wave has play.work.plan n rows) (play_bytes has play.work.plan n rows) (play_rest has play.work.plan n rows) (play_wakes play n)

-- the texts where they go, or what is wrong first with the project, the script or the wave; one microsecond has 16 cycles
unfoldable pub ReplayAnswer : List ℕ → List ℕ → ℕ → Option (List ℕ) → Outputs → Files → Result Texts Stop → Type 0
ReplayAnswer folder wave us script out = AnswerOf (PlayIn folder wave script (16 * us)) (replay_texts out (16 * us))

-- The wave is the one that `run` writes of the same project, script and run time, whatever fuel each call of a chip has there:
-- then the texts are those of that run, and in the report the lines of its chips are left out.
abbrev pub RepeatsRun : ℕ → Play → Type 0
RepeatsRun n play =
    (budget : ℕ) (out : Outputs) → play.work.wave ≡ run_wave (record (contents play.work) { budget = budget }) play.work.plan n →
    replay_texts out n play
    ≡ texts_for out play.work.wave (run_bytes (record (contents play.work) { budget = budget }) play.work.plan n)
    (run_rest (record (contents play.work) { budget = budget }) play.work.plan n) (play_wakes play n)

-- The wave is none that `run` writes of the same project, script and run time, whatever fuel each call of a chip has there.
abbrev pub IsOfNoRun : ℕ → Work → Type 0
IsOfNoRun n work = (budget : ℕ) → work.wave ≢ run_wave (record (contents work) { budget = budget }) work.plan n

-- What the wave of a work says repeats the run that wrote it; where it breaks a rule of waves, no run wrote it.
abbrev pub RepeatIn : List ℕ → ℕ → Work → Reading Play
RepeatIn wave n work files (Ok play) = RowsIn wave n work files (Ok play) × RepeatsRun n play
RepeatIn wave n work files (Err stop) = RowsIn wave n work files (Err stop) × IsOfNoRun n work

-- the same texts, and the wave of a run is accepted
unfoldable pub RepeatAnswer : List ℕ → List ℕ → ℕ → Option (List ℕ) → Outputs → Files → Result Texts Stop → Type 0
RepeatAnswer folder wave us script out = AnswerOf (Then (WorkIn folder script (Some wave)) (RepeatIn wave (16 * us))) (replay_texts out (16 * us))
