-- What a leg of a conversation leaves.
use Rattle.std.specs.Prelude.{◌≡◌, ℕ, ◌+◌, ◌-◌, ◌<◌, ◌≤◌, List, true, false}
use Rattle.sim_base.specs.declared.bench.Port.TheVariants as ports
use Rattle.sim_base.specs.Outside.{Outside}
use Rattle.part_law.specs.declared.part.Part.{Ghosts}
use Rattle.net_resolve.specs.NetsView.{NetsView}
use Rattle.board_live.specs.LiveView.{LiveView, bytes_by, wakes_by}
use Rattle.vcd_text.specs.Ports.{BreaksOff}
use Rattle.live_probe.specs.Levels.{levels_in, drives_in, value_in}
use Rattle.live_leg.specs.Said.{HasSaid}
use Rattle.live_leg.specs.Talks.{MayTalk, tied_of, sent_by, begun_texts}
use Rattle.live_leg.specs.declared.talk.Talk.{Talk}
use Rattle.live_model.specs.Leg.{Wait, held, leg_end, sent_from}

module _ {P : Type 0} (part : Ghosts P) where
  -- nets that were told what a live board drives and connects in its cycle
  pub record Looked (s : LiveView P) (nets : NetsView) : Type 0 where
    pub wiring : nets.wiring ≡ s.wiring
    pub levels : nets.levels ≡ levels_in part s s.cycle
    pub drives : nets.drives ≡ drives_in part s s.cycle

  -- from the live board's cycle to the last before u nothing is another, and no byte comes
  pub record Stepped (s : LiveView P) (u : ℕ) : Type 0 where
    pub levels : (t : ℕ) → s.cycle ≤ t → t < u → levels_in part s t ≡ levels_in part s s.cycle
    pub drives : (t : ℕ) → s.cycle ≤ t → t < u → drives_in part s t ≡ drives_in part s s.cycle
    pub silent : bytes_by part s (u - 1) ≡ bytes_by part s s.cycle

  -- A live board ran from its cycle to the end of a leg with these waits, of which the first that holds there has this number. The leg's
  -- bytes are kept; nothing was said.
  pub record HasRun (until : ℕ) (ws : List Wait) (number : ℕ) (old new : Talk P) (a b c : Outside) (steps more : ℕ) : Type 0 where
    pub ends : new.live.cycle ≡ leg_end (value_in part old.live) (bytes_by part old.live) old.live.cycle until ws
    pub number_is : number ≡ held (value_in part old.live) (bytes_by part old.live) new.live.cycle ws
    pub live : new.live ≡ record old.live { cycle = new.live.cycle }
    pub tied : tied_of new ≡ tied_of old
    pub talks : MayTalk part new a c
    pub bytes : new.sent.bytes ≡ sent_by part old.live old.live.cycle new.live.cycle
    pub said : c.written ports.Serial ≡ b.written ports.Serial
    pub steps_are : more + wakes_by part old.live old.live.cycle ≡ steps + wakes_by part old.live new.live.cycle

  -- A write failed, so the live board is over. Each port has a first part of what was to be there by some cycle, not after cycle n.
  pub record BrokeBy (old : Talk P) (n : ℕ) (new : Talk P) (a b c : Outside) : Type 0 where
    pub over : new.live.over ≡ true
    pub cycle : ℕ
    pub within : cycle ≤ n
    pub broke : (said : List ℕ) → HasSaid a b said → BreaksOff (begun_texts part old cycle said) a c
