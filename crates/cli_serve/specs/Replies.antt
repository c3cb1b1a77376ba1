-- What a line leaves, by what comes after its answer.
use Rattle.std.specs.Prelude.{◌≡◌, ◌≢◌, ◌≤◌, ℕ, List, ◌++◌, Bool, true, false}
use Rattle.sim_base.specs.Outside.{Outside}
use Rattle.vcd_text.specs.Ports.{BreaksOff, texts}
use Rattle.any_part.specs.AnyPart.{AnyState}
use Rattle.live_model.specs.Board.{Setup, wave_to}
use Rattle.live_model.specs.Standing.{Standing}
use Rattle.live_model.specs.Talk.{asked, is_quit, reply, standing_after, text_of}
use Rattle.live_project.specs.declared.live.Next.{Next}
use Rattle.live_project.specs.declared.live.Next.TheVariants as nexts
use Rattle.cli_serve.specs.Conversed.{AreCounted}

-- of whoever stands so by `IsAt`
module _ {Live : Type 0} (IsAt : Setup AnyState → Live → Standing → List ℕ → Outside → Outside → Type 0) (b : Setup AnyState) (lacks : Bool) (s : Standing) (line said : List ℕ) where
  abbrev pub Replies : Next → Live → Outside → Outside → Type 0
  Replies nexts.Request live a now = (is_quit (asked line) ≡ false) × IsAt b live (standing_after s (reply b s lacks line)) (said ++ text_of s.cycle (reply b s lacks line)) a now
  Replies nexts.Quit live a now = (is_quit (asked line) ≡ true) × IsAt b live (standing_after s (reply b s lacks line)) (said ++ text_of s.cycle (reply b s lacks line)) a now
  Replies nexts.WriteFailed live a now =
      (m : ℕ) × (m ≤ (standing_after s (reply b s lacks line)).cycle)
      × BreaksOff (texts b.wave true (wave_to b (standing_after s (reply b s lacks line)).inputs m) (said ++ text_of s.cycle (reply b s lacks line))) a now

  -- unless a write failed, its wakes were counted
  abbrev pub CountsReply : Next → ℕ → ℕ → Type 0
  CountsReply next before after = next ≢ nexts.WriteFailed → AreCounted b s (standing_after s (reply b s lacks line)) before after
