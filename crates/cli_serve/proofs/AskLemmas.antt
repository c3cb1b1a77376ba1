-- A request that is read and answered.
use Rattle.std.proofs.Common.{◌≡◌, ◌≢◌, ◌<◌, ℕ, List, [], length, replicate, Bool, true, Option, None, Some, inl, inr, arith}
use Rattle.std.proofs.lemmas.List.{length-replicate}
use Rattle.sim_base.specs.declared.bench.LineEnd.TheVariants as lines
use Rattle.sim_base.specs.Outside.{Outside, LineTold}
use Rattle.any_part.specs.AnyPart.{AnyState}
use Rattle.live_model.specs.Board.{Setup}
use Rattle.live_model.specs.Standing.{Standing}
use Rattle.live_model.specs.Talk.{reply, standing_after}
use Rattle.cli_serve.specs.Replies.{Replies}
use Rattle.live_project.specs.declared.live.Next.{Next}
use Rattle.live_project.specs.declared.live.Next.TheVariants as nexts
use Rattle.cli_serve.specs.declared.serving.Ended.{Ended}
use Rattle.cli_serve.specs.declared.serving.Ended.TheVariants as ends
use Rattle.cli_serve.specs.Conversed.{TakesOne, AreTold, AreCounted, Asks, ended_by, is_calm}

pub takes_line : (old new : Option (List (List ℕ))) (line : List ℕ) → LineTold lines.Line old line new → TakesOne old line new
takes_line None new line told = told
takes_line (Some old) new line (rest, left, (is, few)) = (rest, is, left)

-- a line that is too long, where none is told any one
pub takes_long : (old new : Option (List (List ℕ))) (into : List ℕ) → LineTold lines.TooLong old into new → (line : List ℕ) × (1024 < length line) × TakesOne old line new
takes_long None new into told =
    let line : List ℕ = replicate 1025 0 in
    let long : length line ≡ 1025 = length-replicate {A = ℕ} 1025 0 in
    let more : 1024 < length line = omega (arith, long) in
    (line, more, told)
takes_long (Some old) new into (rest, left, (line, is, long)) = (line, long, (rest, is, left))

pub none_left : (old new : Option (List (List ℕ))) (into : List ℕ) → LineTold lines.Over old into new → AreTold old []
none_left None new into told = tt
none_left (Some old) new into (rest, left, (is, none)) = is

module _ {Live : Type 0} (IsAt : Setup AnyState → Live → Standing → List ℕ → Outside → Outside → Type 0) (b : Setup AnyState) (a : Outside) where
  -- what comes of the answer to a line that was read
  pub asked_once : (s : Standing) (said line : List ℕ) (lacks : Bool) (next : Next) (live : Live) (m c : Outside) (before after : ℕ) → TakesOne m.requests line c.requests →
      Replies IsAt b lacks s line said next live a c → (next ≢ nexts.WriteFailed → AreCounted b s (standing_after s (reply b s lacks line)) before after) → Asks IsAt b a s said (ended_by next) live m c before after
  asked_once s said line lacks nexts.Request live m c before after taken (quit, at) counted = record { line = line; taken = taken; quit = quit; lacks = lacks; at = at; counted = counted (λ e. cc) }
  asked_once s said line lacks nexts.Quit live m c before after taken (quit, at) counted = inl (record { line = line; taken = taken; quit = quit; lacks = lacks; at = at; counted = counted (λ e. cc) })
  asked_once s said line lacks nexts.WriteFailed live m c before after taken (reached, within, broke) counted = record { line = line; taken = taken; lacks = lacks; reached = reached; within = within; broke = broke }

  module _ (MayAnswer : Live → Outside → Outside → Type 0) (may_of : (live : Live) (s : Standing) (said : List ℕ) (c : Outside) → IsAt b live s said a c → MayAnswer live a c) where
    pub still_calm : (s : Standing) (said : List ℕ) (ended : Option Ended) (live : Live) (m c : Outside) (before after : ℕ) → Asks IsAt b a s said ended live m c before after → is_calm ended ≡ true → MayAnswer live a c
    still_calm s said None live m c before after asks calm = may_of live _ _ c asks.at
    still_calm s said (Some ends.Whole) live m c before after (inl asks) calm = may_of live _ _ c asks.at
    still_calm s said (Some ends.Whole) live m c before after (inr asks) calm = may_of live _ _ c asks.at
    still_calm s said (Some ends.RequestFailed) live m c before after asks calm = absurd (cc)
    still_calm s said (Some ends.WriteFailed) live m c before after asks calm = absurd (cc)
