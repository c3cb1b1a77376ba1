-- What `serve FOLDER [--script FILE] [--vcd FILE] [--budget N]` is answered with (profile).
use Rattle.std.specs.Prelude.{◌≡◌, ◌-◌, ◌^◌, ℕ, List, ◌++◌, take, Bool, is_some, Option, None, Some, Result, Ok, Err}
use Rattle.std.specs.Option.{option_map}
use Rattle.sim_base.specs.Outside.{Files}
use Rattle.sim_outcome_model.specs.Stop.{Stop, Texts}
use Rattle.sim_outcome_model.specs.Work.{Reading, Then}
use Rattle.any_part.specs.Start.{Contents}
use Rattle.board_build.specs.declared.plan.Plan.{Plan}
use Rattle.board_outputs.specs.Run.{named_text}
use Rattle.project_model.specs.Work.{Work, WorkIn}
use Rattle.project_run.specs.Run.{run_wave, run_wakes}
use Rattle.law_isolation.specs.Isolated.{Fact}
use Rattle.live_model.specs.Standing.{Standing, opened}
use Rattle.live_model.specs.Talk.{greeting, talk}
use Rattle.live_project.specs.Start.{setup_of}

-- what the parts are loaded with, where each call into a chip gets so much fuel
abbrev pub contents : Work → ℕ → Contents
contents work budget = record { flash = work.flash; chips = work.chips; budget = budget }

-- a conversation goes over so many requests at most
abbrev pub most_requests : ℕ
most_requests = 2 ^ 64 - 1

-- The conversation over these requests with the live board of a plan: what is remembered at its end, and what was said after the
-- greeting. Memory is lacking for the answers of which `lacks` says so.
abbrev pub talk_with : Contents → Plan → Bool → List Bool → List (List ℕ) → Standing × List ℕ
talk_with has plan wave lacks lines = talk (setup_of has plan wave) lacks (opened plan.inputs) (take most_requests lines)

-- a plan under the values that were given, those of the script among them
abbrev pub under_given : Plan → Standing → Plan
under_given plan s = record plan { inputs = s.inputs }

-- The texts of a conversation that ends so: on Serial what was said, and on Wave, if it is named, the wave of a run under all values
-- that were given.
abbrev pub talk_texts : Contents → Plan → Option (List ℕ) → Standing × List ℕ → Texts
talk_texts has plan wave end = record {
  serial = greeting ++ end.1;
  wave = option_map (named_text (run_wave has (under_given plan end.0) end.0.cycle)) wave;
  report = None;
  wakes = run_wakes has (under_given plan end.0) end.0.cycle;
}

-- these are the texts of a conversation that ends so, of whose run this is true
abbrev pub EndsIn : Fact → Contents → Plan → Option (List ℕ) → Texts → Standing × List ℕ → Type 0
EndsIn IsSo has plan wave t end = (t ≡ talk_texts has plan wave end) × IsSo has (under_given plan end.0) end.0.cycle

-- the same of one over these requests
abbrev pub IsTalk : Fact → Contents → Plan → Option (List ℕ) → Texts → List (List ℕ) → Type 0
IsTalk IsSo has plan wave t lines = (lacks : List Bool) × EndsIn IsSo has plan wave t (talk_with has plan (is_some wave) lacks lines)

-- the same of requests that are told, and where they are not, of some
abbrev pub IsToldTalk : Fact → Contents → Plan → Option (List ℕ) → Texts → Option (List (List ℕ)) → Type 0
IsToldTalk IsSo has plan wave t None = (lines : List (List ℕ)) × IsTalk IsSo has plan wave t lines
IsToldTalk IsSo has plan wave t (Some lines) = IsTalk IsSo has plan wave t lines

-- what a work is answered with, by the requests: texts, and no stop
abbrev pub TalkIn : Fact → Option (List (List ℕ)) → ℕ → Option (List ℕ) → Work → Reading Texts
TalkIn IsSo requests budget wave work files (Ok t) = IsToldTalk IsSo (contents work budget) work.plan wave t requests
TalkIn IsSo requests budget wave work files (Err stop) = ⊥

-- the texts of a conversation, of whose run this is true, or what is wrong with the project or the script first
unfoldable pub ServeSuch : Fact → Option (List (List ℕ)) → List ℕ → ℕ → Option (List ℕ) → Option (List ℕ) → Files → Result Texts Stop → Type 0
ServeSuch IsSo requests folder budget script wave = Then (WorkIn folder script None) (TalkIn IsSo requests budget wave)

-- nothing more is said of it
abbrev pub Whatever : Fact
Whatever has plan n = Unit {0}

abbrev pub ServeAnswer : Option (List (List ℕ)) → List ℕ → ℕ → Option (List ℕ) → Option (List ℕ) → Files → Result Texts Stop → Type 0
ServeAnswer = ServeSuch Whatever
