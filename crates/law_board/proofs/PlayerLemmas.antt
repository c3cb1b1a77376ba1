-- How a player glides, and when it is quiet.
use Rattle.std.proofs.Common.{◌≡◌, ℕ, zero, suc, ◌+◌, ◌<◌, ◌∙◌, false, ap, arith}
use Rattle.std.specs.Prelude.{◌||◌, ◌==◌}
use Rattle.std.specs.List.{list_any}
use Rattle.part_law.specs.Machine.{glide, idle, IsQuiet}
use Rattle.law_board.specs.Player.{has_row, PlayerState, player}

pub player_glides : (s : PlayerState) (n : ℕ) → glide player s s.cycle n ≡ record { rows = s.rows; cycle = s.cycle + n; held = s.held }
player_glides s zero = let e : s.cycle ≡ s.cycle + 0 = omega arith in ap (λ (t : ℕ). record { rows = s.rows; cycle = t; held = s.held }) e
player_glides s (suc n) =
    let e : s.cycle + n + 1 ≡ s.cycle + suc n = omega arith in
    ap (λ (p : PlayerState). idle player p (s.cycle + n)) (player_glides s n) ∙ ap (λ (t : ℕ). record { rows = s.rows; cycle = t; held = s.held }) e

-- it is quiet from a later cycle than 0 on as long as no row comes
pub player_quiet : (s : PlayerState) (n : ℕ) → ((k : ℕ) → k < n → ((s.cycle + k == 0) || list_any (λ r. has_row r (s.cycle + k + 1)) s.rows) ≡ false) → IsQuiet player s s.cycle n
player_quiet s n none k h = ap (λ (p : PlayerState). player.due p (s.cycle + k)) (player_glides s k) ∙ none k h
