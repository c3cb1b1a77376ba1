-- What a live board has shown stays, whatever is given and run later.
use Rattle.std.proofs.Common.{◌≡◌, ◌∙◌, ◌≤◌, ℕ, ◌+◌, ◌-◌, List, [], ◌++◌, Bool, None, ap, sym, append_assoc, arith}
use Rattle.std.proofs.lemmas.List.{append-nil}
use Rattle.sim_base.specs.declared.wiring.Input.{Input}
use Rattle.sim_base.specs.Rows.{Row}
use Rattle.sim_base.specs.Outside.{IsFront}
use Rattle.vcd_text.proofs.CallerLemmas.{begun_front}
use Rattle.board_model.specs.Board.{states}
use Rattle.board_model.specs.Rows.{rows, shown_before}
use Rattle.law_board.specs.Scripts.{with_input}
use Rattle.law_board.proofs.ScriptLaw.{given_later}
use Rattle.law_board.proofs.Splits.{rows_split}
use Rattle.live_model.specs.Board.{Setup, rows_to, wave_to, whole_wave}
use Rattle.live_model.specs.Standing.{Standing}
use Rattle.cli_serve.proofs.ReplyLemmas.{reply_keeps}
use Rattle.cli_serve.proofs.TalkLemmas.{talk_keeps}
use Rattle.live_model.specs.Talk.{reply, standing_after, talk}

module _ {S : Type 0} (b : Setup S) where
  -- a standing at which the rows of another one are the first
  pub record IsLater (s end : Standing) : Type 0 where
    pub more : List Row
    pub whole : rows_to b s.inputs s.cycle ++ more ≡ rows_to b end.inputs end.cycle

  pub later_same : (s : Standing) → IsLater s s
  later_same s = record { more = []; whole = append-nil (rows_to b s.inputs s.cycle) }

  pub later_on : (s m end : Standing) → IsLater s m → IsLater m end → IsLater s end
  later_on s m end first second = record {
    more = first.more ++ second.more;
    whole = sym (append_assoc (rows_to b s.inputs s.cycle) first.more second.more) ∙ ap (λ (l : List Row). l ++ second.more) first.whole ∙ second.whole;
  }

  -- a later cycle
  pub later_run : (s : Standing) (t : ℕ) → s.cycle ≤ t → IsLater s (record s { cycle = t })
  later_run s t le =
      let e : s.cycle + (t - s.cycle) ≡ t = omega (arith, le) in
      record {
        more = rows b.machine b.wiring s.inputs (shown_before b.machine b.wiring s.inputs None b.starts 0 s.cycle) (states b.machine b.wiring s.inputs b.starts 0 s.cycle) (0 + s.cycle) (t - s.cycle);
        whole = sym (rows_split b.machine b.wiring s.inputs None b.starts 0 s.cycle (t - s.cycle)) ∙ ap (λ (n : ℕ). rows_to b s.inputs n) e;
      }

  -- a value of its cycle or a later one
  pub later_given : (s : Standing) (x : Input) → s.cycle ≤ x.cycle → IsLater s (record s { inputs = with_input s.inputs x })
  later_given s x le =
      let le0 : 0 + s.cycle ≤ x.cycle = omega (arith, le) in
      record { more = []; whole = append-nil (rows_to b s.inputs s.cycle) ∙ sym (given_later b.machine b.wiring s.inputs x None b.starts 0 s.cycle le0).same_rows }

  -- its wave is a first part of that of a later standing
  pub wave_later : (s end : Standing) → IsLater s end → IsFront (wave_to b s.inputs s.cycle) (whole_wave b end.inputs end.cycle)
  wave_later s end later = begun_front b.variables (rows_to b s.inputs s.cycle) later.more (rows_to b end.inputs end.cycle) end.cycle later.whole

  -- whatever is asked
  pub reply_later : (s : Standing) (lacks : Bool) (line : List ℕ) → IsLater s (standing_after s (reply b s lacks line))
  reply_later s lacks line = reply_keeps b s (λ (end : Standing). IsLater s end) (later_same s) (λ t le. later_run s t le) (λ x le less. later_given s x le) lacks line

  pub talk_later : (lacks : List Bool) (s : Standing) (lines : List (List ℕ)) → IsLater s (talk b lacks s lines).0
  talk_later lacks s lines = talk_keeps b (λ (end : Standing). IsLater s end) (λ m lacks line later. later_on s m (standing_after m (reply b m lacks line)) later (reply_later m lacks line)) lacks s lines (later_same s)
