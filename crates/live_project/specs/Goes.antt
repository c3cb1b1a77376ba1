-- A live board on its way, and what it answers.
use Rattle.std.specs.Prelude.{◌≡◌, ◌≤◌, ℕ, List, ◌++◌, length, map, Bool, true, false, if◌then◌else◌}
use Rattle.sim_base.specs.declared.bench.WriteEnd.{WriteEnd}
use Rattle.sim_base.specs.declared.bench.WriteEnd.TheVariants as writes
use Rattle.sim_base.specs.Outside.{Outside}
use Rattle.part_law.specs.declared.part.Part.{Ghosts}
use Rattle.vcd_text.specs.Ports.{texts, BreaksOff}
use Rattle.any_part.specs.AnyPart.{AnyPart, AnyState, any, state_of}
use Rattle.board_report.specs.Report.{report_text}
use Rattle.live_leg.specs.Said.{HasSaid}
use Rattle.live_leg.specs.Talks.{MayTalk, tied_of}
use Rattle.live_model.specs.Board.{Setup, wave_to}
use Rattle.live_model.specs.Standing.{Standing}
use Rattle.live_model.specs.Talk.{reply, standing_after, text_of, asked, is_quit}
use Rattle.live_talk.specs.Answers.{standing_of}
use Rattle.live_project.specs.declared.live.Live.{Live}
use Rattle.live_project.specs.declared.live.Next.{Next}
use Rattle.live_project.specs.declared.live.Next.TheVariants as nexts

-- the board that it is
abbrev pub setup_by : Live → Setup AnyState
setup_by live = record {
  machine = any;
  starts = map state_of live.talk.live.start;
  wiring = live.talk.live.wiring;
  parts = live.parts;
  variables = live.talk.head.variables;
  wave = live.wave;
  report = λ t states. report_text t live.parts states;
}

-- what comes after a request, by how its answer was written
abbrev pub next_by : WriteEnd → Bool → Next
next_by writes.Ok quits = if quits then nexts.Quit else nexts.Request
next_by writes.Failed quits = nexts.WriteFailed

module _ (part : Ghosts AnyPart) where
  -- It may be asked.
  pub record MayAnswer (live : Live) (a now : Outside) : Type 0 where
    pub talks : MayTalk part live.talk a now
    pub wanted : live.wave ≡ (tied_of live.talk).wave
    pub wiring : live.probe.wiring ≡ live.talk.live.wiring
    pub many : length live.parts ≡ length live.talk.live.start

  -- It is this board, remembers this, and since `a` this was said; its wave is written but for what it keeps.
  pub record IsAt (b : Setup AnyState) (live : Live) (s : Standing) (said : List ℕ) (a now : Outside) : Type 0 where
    pub setup : setup_by live ≡ b
    pub standing : standing_of live.talk.live ≡ s
    pub may : MayAnswer live a now
    pub has_said : HasSaid a now said

  -- What a line leaves, by what comes next.
  abbrev pub Replies : Setup AnyState → Bool → Standing → List ℕ → List ℕ → Next → Live → Outside → Outside → Type 0
  Replies b lacks s line said nexts.Request live a now =
      (is_quit (asked line) ≡ false) × IsAt b live (standing_after s (reply b s lacks line)) (said ++ text_of s.cycle (reply b s lacks line)) a now
  Replies b lacks s line said nexts.Quit live a now =
      (is_quit (asked line) ≡ true) × IsAt b live (standing_after s (reply b s lacks line)) (said ++ text_of s.cycle (reply b s lacks line)) a now
  Replies b lacks s line said nexts.WriteFailed live a now =
      (m : ℕ) × (m ≤ (standing_after s (reply b s lacks line)).cycle)
      × BreaksOff (texts b.wave true (wave_to b (standing_after s (reply b s lacks line)).inputs m) (said ++ text_of s.cycle (reply b s lacks line))) a now
