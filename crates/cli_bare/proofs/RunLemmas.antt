-- The run of the board is that of its plan.
use Rattle.std.proofs.Common.{◌≡◌, ◌+◌, ℕ, List, [], None, map}
use Rattle.sim_base.specs.declared.bench.WriteEnd.{WriteEnd}
use Rattle.sim_base.specs.Outside.{Outside}
use Rattle.text_model.specs.Wave.{Variable, wave_text}
use Rattle.board_model.specs.Board.{bytes}
use Rattle.board_model.specs.Rows.{rows}
use Rattle.law_board.specs.Active.{active_pairs}
use Rattle.board_run.specs.BoardView.{BoardView}
use Rattle.avr_mcu.specs.Mcu.{McuAt, mcu}
use Rattle.board_outputs.specs.Run.{texts_for}
use Rattle.board_outputs.specs.Ran.{Writes}
use Rattle.board_outputs.specs.Variables.{board_variables}
use Rattle.board_outputs.proofs.PlayLemmas.{same_run}
use Rattle.cli_bare.specs.Bare.{uno_plan, uno_starts, bare_outputs, bare_run}

module _ (flash : List ℕ) (n : ℕ) (vs : List Variable) (v : BoardView McuAt) (shown : vs ≡ board_variables [] uno_plan) (wired : v.wiring ≡ uno_plan.wiring) (given : v.inputs ≡ uno_plan.inputs)
    (begun : map (λ (p : McuAt). p.mcu) v.parts ≡ uno_starts flash) where
  pub bare_writes : (end : WriteEnd) (a b : Outside) →
      Writes end (texts_for bare_outputs (wave_text vs (rows mcu v.wiring v.inputs None (map (λ (p : McuAt). p.mcu) v.parts) 0 n) n) (bytes mcu v.wiring v.inputs (map (λ (p : McuAt). p.mcu) v.parts) 0 n) []
      (active_pairs mcu v.wiring v.inputs (map (λ (p : McuAt). p.mcu) v.parts) 0 n)) a b →
      Writes end (bare_run flash n) a b
  bare_writes end a b = same_run (λ us w inputs ss. Writes end (texts_for bare_outputs (wave_text us (rows mcu w inputs None ss 0 n) n) (bytes mcu w inputs ss 0 n) [] (active_pairs mcu w inputs ss 0 n)) a b)
      _ _ _ _ _ _ _ _ shown wired given begun

  pub bare_counts : (before after : ℕ) → after ≡ before + active_pairs mcu v.wiring v.inputs (map (λ (p : McuAt). p.mcu) v.parts) 0 n → after ≡ before + (bare_run flash n).wakes
  bare_counts before after = same_run (λ us w inputs ss. after ≡ before + active_pairs mcu w inputs ss 0 n) _ _ _ _ _ _ _ _ shown wired given begun
