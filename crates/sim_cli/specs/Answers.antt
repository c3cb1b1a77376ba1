-- What each request is answered with: a line for each command.
use Rattle.std.specs.Prelude.{ℕ, List, Option, None, Some, Bool, true, false, Result}
use Rattle.sim_base.specs.Outside.{Files}
use Rattle.cli_words_model.specs.Request.{NamedBus, NamedFiles, Request, Bare, Check, Module, Run, Serve, Replay, Twin, Make, Decode, Uart, Spi, I2c}
use Rattle.sim_outcome_model.specs.Stop.{Stop, Texts}
use Rattle.sim_outcome_model.specs.Happens.{Answer}
use Rattle.cli_bare.specs.Answer.{BareAnswer}
use Rattle.cli_project.specs.Answer.{CheckAnswer}
use Rattle.cli_module.specs.Answer.{ModuleAnswer}
use Rattle.board_outputs.specs.Run.{Outputs}
use Rattle.law_isolation.specs.Isolated.{Fact}
use Rattle.cli_run.specs.Answer.{RunAnswer, PlayAnswer, AnswerSuch}
use Rattle.cli_serve.specs.Answer.{ServeAnswer, ServeSuch}
use Rattle.cli_replay.specs.Answer.{ReplayAnswer, RepeatAnswer}
use Rattle.cli_twin.specs.Answer.{TwinAnswer}
use Rattle.cli_make.specs.Answer.{MakeAnswer}
use Rattle.wave_decode.specs.declared.bus.Bus.{Bus}
use Rattle.wave_decode.specs.declared.bus.Bus.TheVariants as buses
use Rattle.cli_decode.specs.Answer.{DecodeAnswer}

-- the bytes of a run go to Serial, its wave and its report to the files that are named
abbrev pub outputs_to : NamedFiles → Outputs
outputs_to named = record { serial = true; wave = named.wave; report = named.report }

-- the names of the lines of a bus, and the bus
abbrev pub first_line : NamedBus → List ℕ
first_line (Uart line bit) = line
first_line (Spi clock line mode) = clock
first_line (I2c clock line) = clock

abbrev pub second_line : NamedBus → Option (List ℕ)
second_line (Uart line bit) = None
second_line (Spi clock line mode) = Some line
second_line (I2c clock line) = Some line

abbrev pub bus_of : NamedBus → Bus
bus_of (Uart line bit) = buses.Uart bit
bus_of (Spi clock line mode) = buses.Spi mode
bus_of (I2c clock line) = buses.I2c

-- whether a request is a conversation, which reads requests line by line
abbrev pub is_talk : Request → Bool
is_talk (Serve folder budget script wave) = true
is_talk request = false

-- how `run` is answered, by its folder, microseconds, script, budget and outputs
abbrev pub RunBy : Type 1
RunBy = List ℕ → ℕ → Option (List ℕ) → ℕ → Outputs → Answer

-- how `replay` is answered, by its folder, wave, microseconds, script and outputs
abbrev pub ReplayBy : Type 1
ReplayBy = List ℕ → List ℕ → ℕ → Option (List ℕ) → Outputs → Answer

-- how `serve` is answered, by its folder, budget, script and wave
abbrev pub ServeBy : Type 1
ServeBy = List ℕ → ℕ → Option (List ℕ) → Option (List ℕ) → Answer

-- the texts, or the first event in the order of the work, where `run`, `replay` and `serve` are answered so
abbrev pub AnswersWith : RunBy → ReplayBy → ServeBy → Request → Files → Result Texts Stop → Type 0
AnswersWith run replay serve (Bare hex us) = BareAnswer hex us
AnswersWith run replay serve (Check folder) = CheckAnswer folder
AnswersWith run replay serve (Module name) = ModuleAnswer name
AnswersWith run replay serve (Run folder us budget named) = run folder us named.script budget (outputs_to named)
AnswersWith run replay serve (Serve folder budget script wave) = serve folder budget script wave
AnswersWith run replay serve (Replay folder wave us named) = replay folder wave us named.script (outputs_to named)
AnswersWith run replay serve (Twin folder other us budget) = TwinAnswer folder other us budget
AnswersWith run replay serve (Make seed us) = MakeAnswer seed us
AnswersWith run replay serve (Decode wave bus) = DecodeAnswer wave (first_line bus) (second_line bus) (bus_of bus)

-- by the requests that a conversation reads, where the environment tells them
abbrev pub Answers : Option (List (List ℕ)) → Request → Files → Result Texts Stop → Type 0
Answers requests = AnswersWith RunAnswer ReplayAnswer (ServeAnswer requests)

-- the same with players in place of the chips of a run
abbrev pub PlayAnswers : Option (List (List ℕ)) → Request → Files → Result Texts Stop → Type 0
PlayAnswers requests = AnswersWith PlayAnswer ReplayAnswer (ServeAnswer requests)

-- the same, where this is true of a run, and of that of a conversation
abbrev pub AnswersSuch : Fact → Option (List (List ℕ)) → Request → Files → Result Texts Stop → Type 0
AnswersSuch IsSo requests = AnswersWith (AnswerSuch IsSo) ReplayAnswer (ServeSuch IsSo requests)

-- the same, where a replay of the wave that a run wrote has the texts of that run
abbrev pub RepeatAnswers : Option (List (List ℕ)) → Request → Files → Result Texts Stop → Type 0
RepeatAnswers requests = AnswersWith RunAnswer RepeatAnswer (ServeAnswer requests)
