-- What a caller of the program may rest on: what happens by the answers of its commands (`sim_outcome_model`).
use Rattle.std.specs.Prelude.{◌≡◌, ℕ, List, Option, None, Some}
use Rattle.sim_base.specs.Outside.{Outside}
use Rattle.cli_words_model.specs.Request.{Request, Bare, Check, Module, Run, Serve, Replay, Twin, Make, Decode, request_of}
use Rattle.sim_outcome_model.specs.Outcome.{Outcome}
use Rattle.sim_outcome_model.specs.Happens as outcomes
use Rattle.sim_outcome_model.specs.Promises as promises
use Rattle.law_oled.specs.OledRun.{AreShown}
use Rattle.law_isolation.specs.ChipRun.{AreAlone}
use Rattle.law_isolation.specs.Worlds.{SeesDrivesAlone}
use Rattle.law_isolation.specs.Isolated.{Isolated}
use Rattle.sim_cli.specs.Answers.{Answers, PlayAnswers, AnswersSuch, RepeatAnswers, is_talk}

abbrev pub Happens : Outcome → Option Request → Outside → Outside → Type 0
Happens outcome asked a = outcomes.Happens (Answers a.requests) is_talk outcome asked a

-- the same, where the chips of a run are isolated
abbrev pub HappensIsolated : Outcome → Option Request → Outside → Outside → Type 0
HappensIsolated outcome asked a = outcomes.Happens (AnswersSuch Isolated a.requests) is_talk outcome asked a

-- the same, where a replay of the wave that a run wrote has the texts of that run
abbrev pub HappensRepeated : Outcome → Option Request → Outside → Outside → Type 0
HappensRepeated outcome asked a = outcomes.Happens (RepeatAnswers a.requests) is_talk outcome asked a

-- the count of wakes is that of the answer, where something is asked for
abbrev pub Counts : Outcome → Option Request → Outside → ℕ → ℕ → Type 0
Counts outcome None a before after = Unit {0}
Counts outcome (Some r) a before after = outcomes.Counts (Answers a.requests r) outcome a before after

-- What a call of the program does: its status, Complaint and the other ports.
abbrev pub Does : ℕ → List (List ℕ) → Outside → Outside → Type 0
Does status words a = outcomes.Does (Answers a.requests) is_talk (request_of words) status a

abbrev pub IsAnswered : ℕ → Option Request → Outside → Outside → Type 0
IsAnswered status asked a = promises.IsAnswered (Answers a.requests) status asked a

abbrev pub IsComplete : ℕ → Option Request → Outside → Outside → Type 0
IsComplete status asked a = promises.IsComplete (Answers a.requests) is_talk status asked a

abbrev pub HoldsAnswer : ℕ → Option Request → Outside → Outside → Type 0
HoldsAnswer status asked a = promises.HoldsAnswer (Answers a.requests) status asked a

-- With status 0 of a run, each told port holds the text of the board in which each chip is replaced by a player of the drives
-- that it has in the run.
abbrev pub HoldsPlay : ℕ → Option Request → Outside → Outside → Type 0
HoldsPlay status asked a = promises.HoldsAnswer (PlayAnswers a.requests) status asked a

-- With status 0 of a run or a conversation, each told port holds the text of a board whose chips each do what they do alone: by their module,
-- pins, attributes, budget and size of display, and the levels of their own pins.
abbrev pub HoldsAlone : ℕ → Option Request → Outside → Outside → Type 0
HoldsAlone status asked a = promises.HoldsAnswer (AnswersSuch AreAlone a.requests) status asked a

-- With status 0 of a run or a conversation, each told port holds the text of a board on which all else is as on every other one that differs in its
-- chips alone, as long as the chips of both drive the same.
abbrev pub HoldsWorlds : ℕ → Option Request → Outside → Outside → Type 0
HoldsWorlds status asked a = promises.HoldsAnswer (AnswersSuch SeesDrivesAlone a.requests) status asked a

-- With status 0 of a run or a conversation, each told port holds the text of a board whose OLEDs show, at each cycle, what was written to their
-- addresses on their own two lines before it.
abbrev pub HoldsShown : ℕ → Option Request → Outside → Outside → Type 0
HoldsShown status asked a = promises.HoldsAnswer (AnswersSuch AreShown a.requests) status asked a

-- With status 0 of a replay of the wave that `run` wrote of the same project, script and run time, each told port holds the text
-- of that run; the report has no lines of chips. With status 3 or 4 the wave is not the cause, if a run wrote it.
abbrev pub HoldsRepeat : ℕ → Option Request → Outside → Outside → Type 0
HoldsRepeat status asked a b = promises.HoldsAnswer (RepeatAnswers a.requests) status asked a b × promises.IsTrueStop (RepeatAnswers a.requests) status asked a

abbrev pub IsStopped : ℕ → Option Request → Outside → Outside → Type 0
IsStopped status asked a = promises.IsStopped (Answers a.requests) status asked a

abbrev pub IsTrueStop : ℕ → Option Request → Outside → Type 0
IsTrueStop status asked a = promises.IsTrueStop (Answers a.requests) status asked a

abbrev pub HoldsFront : ℕ → Option Request → Outside → Outside → Type 0
HoldsFront status asked a = promises.HoldsFront (Answers a.requests) status asked a

abbrev pub ComplainsAlone : ℕ → Option Request → Outside → Outside → Type 0
ComplainsAlone = promises.ComplainsAlone is_talk

-- With status 5 of a conversation of which a request could not be read each port holds a first part of its text.
abbrev pub IsBrokenOff : ℕ → Option Request → Outside → Outside → Type 0
IsBrokenOff status asked a = promises.IsBrokenOff (Answers a.requests) is_talk status asked a

abbrev pub CountsWakes : ℕ → Option Request → Outside → ℕ → ℕ → Type 0
CountsWakes status asked a = promises.CountsWakes (Answers a.requests) status asked a

-- `check`, `module` and `decode` run no board, and neither do words that ask for nothing: with any status no wake is counted.
abbrev pub CountsNone : Option Request → ℕ → ℕ → Type 0
CountsNone None before after = after ≡ before
CountsNone (Some (Check folder)) before after = after ≡ before
CountsNone (Some (Module name)) before after = after ≡ before
CountsNone (Some (Decode wave bus)) before after = after ≡ before
CountsNone (Some (Bare hex us)) before after = Unit {0}
CountsNone (Some (Run folder us budget named)) before after = Unit {0}
CountsNone (Some (Serve folder budget script wave)) before after = Unit {0}
CountsNone (Some (Replay folder wave us named)) before after = Unit {0}
CountsNone (Some (Twin folder other us budget)) before after = Unit {0}
CountsNone (Some (Make seed us)) before after = Unit {0}
