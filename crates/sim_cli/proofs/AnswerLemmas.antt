-- Each request has one answer, and those that run no board count no wakes.
use Rattle.std.proofs.Common.{◌≡◌, ℕ, List, Option, None, Some, Ok, false, refl, ap, arith}
use Rattle.sim_base.specs.Outside.{Outside, Files}
use Rattle.sim_outcome_model.specs.Outcome.{Hold, Outcome, Accepted, Stopped, status_of}
use Rattle.sim_outcome_model.specs.Happens.{Answer, Ends}
use Rattle.sim_outcome_model.specs.Happens as outcomes
use Rattle.sim_outcome_model.proofs.EndLemmas.{counts_asked}
use Rattle.sim_outcome_model.proofs.ReadLemmas.{if_some}
use Rattle.cli_project.specs.Answer.{CheckAnswer}
use Rattle.cli_project.proofs.ProjectLemmas.{one_check, check_only}
use Rattle.sim_outcome_model.specs.Stop.{Missing, Texts}
use Rattle.cli_module.specs.Answer.{ModuleAnswer}
use Rattle.cli_words_model.specs.Request.{NamedBus, Request, Bare, Check, Module, Run, Serve, Replay, Twin, Make, Decode}
use Rattle.sim_outcome_model.specs.Promises.{HoldsAnswer, IsOne, IsOneStop}
use Rattle.sim_outcome_model.proofs.PromiseLemmas.{holds_answer}
use Rattle.law_oled.specs.OledRun.{AreShown}
use Rattle.law_isolation.specs.ChipRun.{AreAlone}
use Rattle.law_isolation.specs.Worlds.{SeesDrivesAlone}
use Rattle.law_isolation.specs.Isolated.{Fact, Follows, Isolated}
use Rattle.cli_bare.proofs.AnswerLemmas.{one_bare}
use Rattle.cli_module.proofs.AnswerLemmas.{one_module, module_only}
use Rattle.cli_run.proofs.RunLemmas.{one_run, played_answer, such_answer}
use Rattle.cli_serve.specs.Answer.{ServeAnswer, ServeSuch, Whatever}
use Rattle.cli_serve.proofs.ServeLemmas.{one_serve, such_serve}
use Rattle.cli_replay.specs.Answer.{ReplayAnswer}
use Rattle.cli_replay.proofs.ReplayLemmas.{one_replay}
use Rattle.cli_twin.proofs.AnswerLemmas.{one_twin}
use Rattle.cli_make.proofs.MakeLemmas.{one_make}
use Rattle.cli_decode.proofs.AnswerLemmas.{one_decode, decode_wakes}
use Rattle.board_outputs.specs.Run.{Outputs}
use Rattle.cli_run.specs.Answer.{PlayAnswer, AnswerSuch}
use Rattle.sim_cli.specs.Answers.{Answers, AnswersWith, AnswersSuch, RunBy, ServeBy, bus_of, first_line, is_talk, outputs_to, second_line}
use Rattle.sim_cli.specs.Promises.{Happens, HappensIsolated, HoldsPlay, HoldsAlone, HoldsWorlds, HoldsShown, Counts, CountsNone, CountsWakes}

pub one : (requests : Option (List (List ℕ))) (r : Request) → is_talk r ≡ false → IsOne (Answers requests r)
one requests (Bare hex us) plain = one_bare hex us
one requests (Check folder) plain = one_check folder
one requests (Module name) plain = one_module name
one requests (Run folder us budget named) plain = one_run folder us named.script budget (outputs_to named)
one requests (Serve folder budget script wave) plain = absurd (cc)
one requests (Replay folder wave us named) plain = one_replay folder wave us named.script (outputs_to named)
one requests (Twin folder other us budget) plain = one_twin folder other us budget
one requests (Make seed us) plain = one_make seed us
one requests (Decode wave bus) plain = one_decode wave (first_line bus) (second_line bus) (bus_of bus)

stops_once : (answer : Answer) → IsOne answer → IsOneStop answer
stops_once answer one = record { one_sided = one.one_sided; one_stop = one.one_stop }

pub one_stop : (requests : Option (List (List ℕ))) (r : Request) → IsOneStop (Answers requests r)
one_stop requests (Serve folder budget script wave) = one_serve Whatever requests folder budget script wave
one_stop requests r = stops_once (Answers requests r) (one requests r refl)

-- what answers are, the ports hold
held_so : {R : Type 0} (first other : R → Answer) → ((r : R) (files : Files) (t : Texts) → first r files (Ok t) → other r files (Ok t)) →
    (status : ℕ) (asked : Option R) (a b : Outside) → HoldsAnswer first status asked a b → HoldsAnswer other status asked a b
held_so first other is status asked a b holds = λ e.
    let x = holds e in
    (x.0, λ files told. (let y = x.1 files told in (y.0, y.1, y.2, is y.0 files y.1 y.3, y.4)))

module _ (first other : RunBy) (talk again : ServeBy)
    (runs : (folder : List ℕ) (us : ℕ) (script : Option (List ℕ)) (budget : ℕ) (out : Outputs) (files : Files) (t : Texts) → first folder us script budget out files (Ok t) → other folder us script budget out files (Ok t))
    (serves : (folder : List ℕ) (budget : ℕ) (script wave : Option (List ℕ)) (files : Files) (t : Texts) → talk folder budget script wave files (Ok t) → again folder budget script wave files (Ok t)) where
  with_run : (r : Request) (files : Files) (t : Texts) → AnswersWith first ReplayAnswer talk r files (Ok t) → AnswersWith other ReplayAnswer again r files (Ok t)
  with_run (Run folder us budget named) files t e = runs folder us named.script budget (outputs_to named) files t e
  with_run (Serve folder budget script wave) files t e = serves folder budget script wave files t e
  with_run _ files t e = e

-- what the ports hold after a run whose chips are isolated
module _ (a b : Outside) (o : Outcome) (asked : Option Request) (happens : HappensIsolated o asked a b) where
  held : (other : RunBy) (again : ServeBy) → ((r : Request) (files : Files) (t : Texts) → AnswersSuch Isolated a.requests r files (Ok t) → AnswersWith other ReplayAnswer again r files (Ok t)) →
      HoldsAnswer (AnswersWith other ReplayAnswer again) (status_of o) asked a b
  held other again is =
      held_so (AnswersSuch Isolated a.requests) (AnswersWith other ReplayAnswer again) is (status_of o) asked a b (holds_answer (AnswersSuch Isolated a.requests) is_talk a b o asked happens)

  held_such : (IsSo : Fact) → Follows IsSo → HoldsAnswer (AnswersSuch IsSo a.requests) (status_of o) asked a b
  held_such IsSo follows =
      held (AnswerSuch IsSo) (ServeSuch IsSo a.requests)
      (with_run (AnswerSuch Isolated) (AnswerSuch IsSo) (ServeSuch Isolated a.requests) (ServeSuch IsSo a.requests) (such_answer IsSo follows) (such_serve IsSo follows a.requests))

  pub holds_play : HoldsPlay (status_of o) asked a b
  holds_play =
      held PlayAnswer (ServeAnswer a.requests)
      (with_run (AnswerSuch Isolated) PlayAnswer (ServeSuch Isolated a.requests) (ServeAnswer a.requests) played_answer (such_serve Whatever (λ has plan n so. tt) a.requests))

  pub holds_alone : HoldsAlone (status_of o) asked a b
  holds_alone = held_such AreAlone (λ has plan n so. so.alone)

  pub holds_worlds : HoldsWorlds (status_of o) asked a b
  holds_worlds = held_such SeesDrivesAlone (λ has plan n so. so.worlds)

  pub holds_shown : HoldsShown (status_of o) asked a b
  holds_shown = held_such AreShown (λ has plan n so. so.shown)

-- a request whose texts cost no wakes counts none
none_counted : (answer : Answer) → ((files : Files) (t : Texts) → answer files (Ok t) → t.wakes ≡ 0) → (o : Outcome) (a b : Outside) (n : ℕ) → Ends answer o a b → outcomes.Counts answer o a n n
none_counted answer only Accepted a b n ends = λ e. if_some a.files _ _ (λ (files : Files) (x : (t : Texts) × answer files (Ok t) × Hold t a b). (x.0, x.1, rw (only files x.0 x.1) (omega arith))) ends.1
none_counted answer only _ a b n ends = λ e. absurd (cc)

pub check_counts : (folder : List ℕ) (o : Outcome) (a b : Outside) (n : ℕ) → Ends (CheckAnswer folder) o a b → outcomes.Counts (CheckAnswer folder) o a n n
check_counts folder = none_counted (CheckAnswer folder) (λ files t is. ap (λ (u : Texts). u.wakes) (check_only folder files t is))

pub module_counts : (name : List ℕ) (o : Outcome) (a b : Outside) (n : ℕ) → Ends (ModuleAnswer name) o a b → outcomes.Counts (ModuleAnswer name) o a n n
module_counts name = none_counted (ModuleAnswer name) (λ files t is. ap (λ (u : Texts). u.wakes) (module_only name files t is))

pub decode_counts : (wave : List ℕ) (bus : NamedBus) (o : Outcome) (a b : Outside) (n : ℕ) → Ends (Answers None (Decode wave bus)) o a b → outcomes.Counts (Answers None (Decode wave bus)) o a n n
decode_counts wave bus = none_counted (Answers None (Decode wave bus)) (decode_wakes wave (first_line bus) (second_line bus) (bus_of bus))

-- where nothing is asked for, the status is not 0
pub counted : (o : Outcome) (asked : Option Request) (a b : Outside) (before after : ℕ) → Happens o asked a b → Counts o asked a before after → CountsWakes (status_of o) asked a before after
counted o (Some r) a b before after happens counts = counts_asked (Answers a.requests) r o a before after counts
counted Accepted None a b before after happens counts = absurd happens
counted (Stopped (Missing n)) None a b before after happens counts = λ e. absurd (cc)
counted _ None a b before after happens counts = λ e. absurd (cc)

-- where no board was run
pub boardless : (asked : Option Request) (n : ℕ) → CountsNone asked n n
boardless None n = refl
boardless (Some (Check folder)) n = refl
boardless (Some (Module name)) n = refl
boardless (Some (Decode wave bus)) n = refl
boardless _ n = tt
