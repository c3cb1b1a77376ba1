-- What an answer to a request leaves.
use Rattle.std.specs.Prelude.{◌≡◌, ◌+◌, ◌≤◌, ℕ, List, ◌++◌, Result}
use Rattle.sim_base.specs.declared.bench.WriteEnd.{WriteEnd}
use Rattle.sim_base.specs.declared.bench.WriteEnd.TheVariants as writes
use Rattle.sim_base.specs.declared.wiring.Input.{Input}
use Rattle.sim_base.specs.Outside.{Outside}
use Rattle.part_law.specs.declared.part.Part.{Ghosts}
use Rattle.board_live.specs.LiveView.{LiveView, wakes_by}
use Rattle.vcd_text.specs.Ports.{BreaksOff}
use Rattle.live_leg.specs.Said.{HasSaid}
use Rattle.live_leg.specs.Talks.{MayTalk, tied_of, begun_texts}
use Rattle.live_leg.specs.declared.talk.Talk.{Talk}
use Rattle.live_model.specs.Standing.{Standing}
use Rattle.live_model.specs.Talk.{Answer, standing_after, text_of}

-- what a live board remembers
abbrev pub standing_of : {P : Type 0} → LiveView P → Standing
standing_of s = record { inputs = s.inputs; cycle = s.cycle }

-- a live board that stands so
abbrev pub live_at : {P : Type 0} → LiveView P → Standing → LiveView P
live_at s at = record s { inputs = at.inputs; cycle = at.cycle }

-- a conversation whose live board stands so
abbrev pub talk_at : {P : Type 0} → Talk P → Standing → Talk P
talk_at talk at = record talk { live = live_at talk.live at }

module _ {P : Type 0} (part : Ghosts P) (x : Result Answer ℕ) (old : Talk P) where
  -- it stands as it does after the answer, which was said
  pub record HasAnswered (new : Talk P) (a b c : Outside) (steps more : ℕ) : Type 0 where
    pub live : new.live ≡ live_at old.live (standing_after (standing_of old.live) x)
    pub tied : tied_of new ≡ tied_of old
    pub talks : MayTalk part new a c
    pub said : HasSaid b c (text_of old.live.cycle x)
    pub steps_are : more + wakes_by part old.live old.live.cycle ≡ steps + wakes_by part new.live new.live.cycle

  -- a write failed, and each port has a first part of what was to be there by then or some cycle before
  pub record HasFailed (a b c : Outside) : Type 0 where
    pub cycle : ℕ
    pub within : cycle ≤ (standing_after (standing_of old.live) x).cycle
    pub broke : (said : List ℕ) → HasSaid a b said
        → BreaksOff (begun_texts part (talk_at old (standing_after (standing_of old.live) x)) cycle (said ++ text_of old.live.cycle x)) a c

  abbrev pub Answers : WriteEnd → Talk P → Outside → Outside → Outside → ℕ → ℕ → Type 0
  Answers writes.Ok new a b c steps more = HasAnswered new a b c steps more
  Answers writes.Failed new a b c steps more = HasFailed a b c
