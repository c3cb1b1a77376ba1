-- What a live board answers to lines of requests (profile).
use Rattle.std.specs.Prelude.{ℕ, nat_le, nat_lt, min, List, [], ◌∷◌, ◌++◌, length, Bool, true, false, ◌&&◌, Result, Ok, Err, if◌then◌else◌, codes}
use Rattle.std.specs.Fmt.{decimal}
use Rattle.sim_base.specs.declared.limits.TheConstants.{MOST_CYCLES}
use Rattle.sim_refusals.specs.Refusals.{RequestUnknown, RequestPast, RequestLong, RequestWave}
use Rattle.text_model.specs.Wave.{Variable, Source}
use Rattle.vcd_text.specs.Writers.{capped}
use Rattle.board_build.specs.declared.plan.PlanPart.{PlanPart}
use Rattle.law_board.specs.Scripts.{with_input}
use Rattle.live_request.specs.Condition.{Condition}
use Rattle.live_request.specs.Request.{Acting, Request, Run, Acts, Level, Report, Wave, Quit, request_of}
use Rattle.live_request.specs.Words.{◌>>=◌}
use Rattle.live_text.specs.declared.answer.TheConstants.{OUT_OF_MEMORY}
use Rattle.live_text.specs.Answer.{ok_text, no_text, block_text}
use Rattle.live_model.specs.Board.{Setup, sent_to, value_at, report_at, wave_to}
use Rattle.live_model.specs.Standing.{Standing, input_of}
use Rattle.live_model.specs.Leg.{Wait, source_or, waits_for, sent_from, leg_end, held}

-- an answer's words and its block
pub record Said : Type 0 where
  pub words : List ℕ
  pub block : List ℕ

abbrev pub silent : Said
silent = record { words = []; block = [] }

-- words without a block
abbrev pub worded : List ℕ → Said
worded words = record { words = words; block = [] }

-- what is remembered, and what is said
abbrev pub Answer : Type 0
Answer = Standing × Said

-- where a board's variables have these values in each cycle, and these bytes were sent in the cycles below each
module _ (value : ℕ → Source → ℕ) (sent : ℕ → List ℕ) (variables : List Variable) (s : Standing) where
  -- what a run to cycle t leaves, and the number of the condition by which it ended
  abbrev pub ran_to : List Wait → ℕ → Answer
  ran_to ws t = (record s { cycle = t }, record { words = decimal (held value sent t ws); block = sent_from value sent s.cycle t })

  -- 106 where its end is run already
  abbrev pub run_to : ℕ → List Wait → Result Answer ℕ
  run_to until ws = if nat_le until s.cycle then Err RequestPast else Ok (ran_to ws (leg_end value sent s.cycle until ws))

  -- not after the end of a board's time
  abbrev pub run : ℕ → List Condition → Result Answer ℕ
  run until conditions = waits_for variables conditions >>= run_to (min until MOST_CYCLES)

  abbrev pub level : List ℕ → Result Answer ℕ
  level name = source_or variables name >>= λ shows. Ok (s, worded (value s.cycle shows ∷ []))

abbrev pub acts : List PlanPart → Standing → Acting → Result Answer ℕ
acts parts s act = input_of parts s.cycle act >>= λ x. Ok (record s { inputs = with_input s.inputs x }, silent)

-- 108 where no wave is written; a length that reaches 2^64 - 1 stays there
abbrev pub wave_length : Bool → List ℕ → Standing → Result Answer ℕ
wave_length wanted text s = if wanted then Ok (s, worded (decimal (capped (length text)))) else Err RequestWave

abbrev pub report : List ℕ → Standing → Result Answer ℕ
report text s = Ok (s, record { words = []; block = text })

abbrev pub answer : {S : Type 0} → Setup S → Standing → Request → Result Answer ℕ
answer b s (Run until conditions) = run (value_at b s.inputs) (sent_to b s.inputs) b.variables s until conditions
answer b s (Acts act) = acts b.parts s act
answer b s (Level name) = level (value_at b s.inputs) (sent_to b s.inputs) b.variables s name
answer b s Report = report (report_at b s.inputs s.cycle) s
answer b s Wave = wave_length b.wave (wave_to b s.inputs s.cycle) s
answer b s Quit = Ok (s, silent)
answer b s request = Err RequestUnknown

-- a line of at most 1,024 bytes asks for something
abbrev pub asked : List ℕ → Result Request ℕ
asked line = if nat_lt 1024 (length line) then Err RequestLong else request_of line

-- what memory is asked for: a value that is given, and a report
abbrev pub may_lack : Result Request ℕ → Bool
may_lack (Ok (Acts act)) = true
may_lack (Ok Report) = true
may_lack r = false

-- an answer that comes only where memory is not lacking
abbrev pub lacking : Bool → Result Answer ℕ → Result Answer ℕ
lacking lacks (Ok x) = if lacks then Err OUT_OF_MEMORY else Ok x
lacking lacks (Err number) = Err number

-- what comes of a line, where memory is lacking for it or not: after `no` nothing has happened
abbrev pub reply : {S : Type 0} → Setup S → Standing → Bool → List ℕ → Result Answer ℕ
reply b s lacks line = lacking (lacks && may_lack (asked line)) (asked line >>= answer b s)

abbrev pub standing_after : Standing → Result Answer ℕ → Standing
standing_after s (Ok x) = x.0
standing_after s (Err number) = s

abbrev pub text_of : ℕ → Result Answer ℕ → List ℕ
text_of cycle (Ok x) = ok_text x.0.cycle (length x.1.block) x.1.words ++ block_text x.1.block
text_of cycle (Err number) = no_text cycle number

abbrev pub is_quit : Result Request ℕ → Bool
is_quit (Ok Quit) = true
is_quit r = false

-- what is said before any request
abbrev pub greeting : List ℕ
greeting = ok_text 0 0 (codes "mudflatjar 1")

-- whether memory is lacking for the first of some lines, and for the others
abbrev pub first_lacks : List Bool → Bool
first_lacks [] = false
first_lacks (lacks ∷ rest) = lacks

abbrev pub rest_lacks : List Bool → List Bool
rest_lacks [] = []
rest_lacks (lacks ∷ rest) = rest

-- All answers to some lines, up to `quit` or the last of them, and what is remembered then.
unfoldable pub talk : {S : Type 0} → Setup S → List Bool → Standing → List (List ℕ) → Standing × List ℕ
talk b lacks s [] = (s, [])
talk b lacks s (line ∷ lines) =
    let x = reply b s (first_lacks lacks) line in
    if is_quit (asked line) then (standing_after s x, text_of s.cycle x)
    else (
    let more = talk b (rest_lacks lacks) (standing_after s x) lines in
    (more.0, text_of s.cycle x ++ more.1)
    )
