-- How a conversation goes from request to request, and how it ends.
use Rattle.std.specs.Prelude.{◌≡◌, ◌⊎◌, ◌+◌, ◌-◌, ◌^◌, ◌≤◌, ℕ, List, [], ◌∷◌, ◌++◌, take, Bool, true, false, Option, None, Some}
use Rattle.sim_base.specs.declared.bench.Port.{Port}
use Rattle.sim_base.specs.Causes.{Rose}
use Rattle.sim_base.specs.Outside.{Outside, SamePorts, IsFront}
use Rattle.vcd_text.specs.Ports.{texts, BreaksOff, Leaves}
use Rattle.any_part.specs.AnyPart.{AnyState}
use Rattle.live_model.specs.Board.{Setup, wave_to, whole_wave, wakes_to}
use Rattle.live_model.specs.Standing.{Standing}
use Rattle.live_model.specs.Talk.{asked, greeting, is_quit, reply, standing_after, talk, text_of}
use Rattle.live_project.specs.declared.live.Next.{Next}
use Rattle.live_project.specs.declared.live.Next.TheVariants as nexts
use Rattle.sim_outcome_model.specs.Outcome.{Outcome, Accepted, RequestFailed, WriteFailed}
use Rattle.cli_serve.specs.Answer.{most_requests}
use Rattle.cli_serve.specs.declared.serving.Ended.{Ended}
use Rattle.cli_serve.specs.declared.serving.Ended.TheVariants as ends

-- one request was read, where the environment tells them
abbrev pub TakesOne : Option (List (List ℕ)) → List ℕ → Option (List (List ℕ)) → Type 0
TakesOne None line new = new ≡ None
TakesOne (Some old) line new = (rest : List (List ℕ)) × (old ≡ line ∷ rest) × (new ≡ Some rest)

-- these are the requests, where the environment tells them
abbrev pub AreTold : Option (List (List ℕ)) → List (List ℕ) → Type 0
AreTold None lines = Unit {0}
AreTold (Some told) lines = told ≡ lines

-- these were read, and the others are still to be
abbrev pub WereRead : Option (List (List ℕ)) → List (List ℕ) → Option (List (List ℕ)) → Type 0
WereRead None lines new = new ≡ None
WereRead (Some old) lines new = (rest : List (List ℕ)) × (old ≡ lines ++ rest) × (new ≡ Some rest)

-- The conversation over all requests comes to a standing, and this is said after the greeting. Memory may lack for each answer.
pub record HasTalked {S : Type 0} (b : Setup S) (start : Standing) (requests : Option (List (List ℕ))) (s : Standing) (said : List ℕ) : Type 0 where
  pub lines : List (List ℕ)
  pub told : AreTold requests lines
  pub lacks : List Bool
  pub talked : talk b lacks start (take most_requests lines) ≡ (s, said)

-- the texts for the ports of a live board that ends at a standing, when this was said
abbrev pub texts_at : {S : Type 0} → Setup S → Standing → List ℕ → Port → Option (List ℕ)
texts_at b s said = texts b.wave true (whole_wave b s.inputs s.cycle) said

-- wakes were counted from one standing to another
abbrev pub AreCounted : {S : Type 0} → Setup S → Standing → Standing → ℕ → ℕ → Type 0
AreCounted b s end before after = after + wakes_to b s.inputs s.cycle ≡ before + wakes_to b end.inputs end.cycle

-- what comes of an answer, None where another request may come
abbrev pub ended_by : Next → Option Ended
ended_by nexts.Request = None
ended_by nexts.Quit = Some ends.Whole
ended_by nexts.WriteFailed = Some ends.WriteFailed

-- the live board may be asked, or its wave ended
abbrev pub is_calm : Option Ended → Bool
is_calm None = true
is_calm (Some ends.Whole) = true
is_calm (Some ends.RequestFailed) = false
is_calm (Some ends.WriteFailed) = false

-- The live board has this setup, and began when the environment was `a`.
module _ (b : Setup AnyState) (a : Outside) where
  -- A request was read, and its answer could not be written whole.
  pub record IsCut (s : Standing) (said : List ℕ) (m c : Outside) : Type 0 where
    pub line : List ℕ
    pub taken : TakesOne m.requests line c.requests
    pub lacks : Bool
    pub reached : ℕ
    pub within : reached ≤ (standing_after s (reply b s lacks line)).cycle
    pub broke : BreaksOff (texts b.wave true (wave_to b (standing_after s (reply b s lacks line)).inputs reached) (said ++ text_of s.cycle (reply b s lacks line))) a c

  -- An answer could not be written whole: each port has a first part of what all requests would have brought.
  pub record HasBroken (start : Standing) (m c : Outside) : Type 0 where
    pub end : Standing
    pub said : List ℕ
    pub talked : HasTalked b start m.requests end said
    pub broke : BreaksOff (texts_at b end (greeting ++ said)) a c

  -- A request could not be read: the same, and the ports are those before it.
  pub record HasStopped (start : Standing) (m c : Outside) : Type 0 where
    pub end : Standing
    pub said : List ℕ
    pub talked : HasTalked b start m.requests end said
    pub before : Outside
    pub wave : List ℕ
    pub answers : List ℕ
    pub leaves : Leaves (texts b.wave true wave answers) a before
    pub wave_front : IsFront wave (whole_wave b end.inputs end.cycle)
    pub answers_front : IsFront answers (greeting ++ said)
    pub rose : Rose before.read_faults c.read_faults
    pub ports : SamePorts (record before { requests = c.requests }) c

-- The same, of whatever live board stands so by `IsAt`.
module _ {Live : Type 0} (IsAt : Setup AnyState → Live → Standing → List ℕ → Outside → Outside → Type 0) (b : Setup AnyState) (a : Outside) where
  -- A request was read and answered, which was `quit` or not.
  pub record Answered (quits : Bool) (s : Standing) (said : List ℕ) (live : Live) (m c : Outside) (before after : ℕ) : Type 0 where
    pub line : List ℕ
    pub taken : TakesOne m.requests line c.requests
    pub quit : is_quit (asked line) ≡ quits
    pub lacks : Bool
    pub at : IsAt b live (standing_after s (reply b s lacks line)) (said ++ text_of s.cycle (reply b s lacks line)) a c
    pub counted : AreCounted b s (standing_after s (reply b s lacks line)) before after

  -- No request was left.
  pub record IsOver (s : Standing) (said : List ℕ) (live : Live) (m c : Outside) (before after : ℕ) : Type 0 where
    pub none : AreTold m.requests []
    pub at : IsAt b live s said a c
    pub counted : after ≡ before

  -- A request could not be read.
  pub record IsUnread (s : Standing) (said : List ℕ) (live : Live) (m c : Outside) : Type 0 where
    pub at : IsAt b live s said a m
    pub rose : Rose m.read_faults c.read_faults
    pub ports : SamePorts (record m { requests = c.requests }) c

  -- what comes of asking once
  abbrev pub Asks : Standing → List ℕ → Option Ended → Live → Outside → Outside → ℕ → ℕ → Type 0
  Asks s said None live m c before after = Answered false s said live m c before after
  Asks s said (Some ends.Whole) live m c before after = Answered true s said live m c before after ⊎ IsOver s said live m c before after
  Asks s said (Some ends.RequestFailed) live m c before after = IsUnread s said live m c
  Asks s said (Some ends.WriteFailed) live m c before after = IsCut b a s said m c

  -- All requests were answered.
  pub record HasConversed (start : Standing) (live : Live) (m c : Outside) (before after : ℕ) : Type 0 where
    pub end : Standing
    pub said : List ℕ
    pub talked : HasTalked b start m.requests end said
    pub at : IsAt b live end (greeting ++ said) a c
    pub counted : AreCounted b start end before after

  -- what comes of a conversation
  abbrev pub Conversed : Standing → Ended → Live → Outside → Outside → ℕ → ℕ → Type 0
  Conversed start ends.Whole live m c before after = HasConversed start live m c before after
  Conversed start ends.RequestFailed live m c before after = HasStopped b a start m c
  Conversed start ends.WriteFailed live m c before after = HasBroken b a start m c

-- All requests were answered, and the wave has ended.
pub record HasHeld (b : Setup AnyState) (a : Outside) (start : Standing) (m c : Outside) (before after : ℕ) : Type 0 where
  pub end : Standing
  pub said : List ℕ
  pub talked : HasTalked b start m.requests end said
  pub leaves : Leaves (texts_at b end (greeting ++ said)) a c
  pub counted : AreCounted b start end before after

-- what a conversation leaves, by the outcome
abbrev pub Held : Setup AnyState → Outside → Standing → Outcome → Outside → Outside → ℕ → ℕ → Type 0
Held b a start Accepted m c before after = HasHeld b a start m c before after
Held b a start RequestFailed m c before after = HasStopped b a start m c
Held b a start WriteFailed m c before after = HasBroken b a start m c
Held b a start _ m c before after = ⊥
