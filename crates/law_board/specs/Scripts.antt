-- A script that gets one more value, and two scripts with which a board runs alike (profile).
use Rattle.std.specs.Prelude.{◌≡◌, ℕ, ◌+◌, ◌<◌, List, [], ◌∷◌, Option, nat_le, if◌then◌else◌}
use Rattle.sim_base.specs.declared.wiring.Wiring.{Wiring}
use Rattle.sim_base.specs.declared.wiring.Input.{Input}
use Rattle.part_law.specs.Machine.{Machine}
use Rattle.board_model.specs.Board.{input_at, states, bytes}
use Rattle.board_model.specs.Rows.{Shown, shown_before, rows}
use Rattle.law_board.specs.Active.{active_cycles, active_pairs}

-- the script with one more value, after those of its cycle and of earlier ones
abbrev pub with_input : List Input → Input → List Input
with_input [] x = x ∷ []
with_input (y ∷ ys) x = if nat_le y.cycle x.cycle then y ∷ with_input ys x else x ∷ (y ∷ ys)

-- two scripts say the same in the n cycles from c on
abbrev pub SaySame : List Input → List Input → ℕ → ℕ → Type 0
SaySame one other c n = (t i : ℕ) → t < n → input_at other (c + t) i ≡ input_at one (c + t) i

-- What a board does in the n cycles from c on is the same with two scripts.
pub record SameRun {S : Type 0} (m : Machine S) (w : Wiring) (one other : List Input) (before : Option Shown) (ss : List S) (c n : ℕ) : Type 0 where
  pub same_states : states m w other ss c n ≡ states m w one ss c n
  pub same_shown : shown_before m w other before ss c n ≡ shown_before m w one before ss c n
  pub same_rows : rows m w other before ss c n ≡ rows m w one before ss c n
  pub same_bytes : bytes m w other ss c n ≡ bytes m w one ss c n
  pub same_cycles : (i : ℕ) → active_cycles m w other ss c n i ≡ active_cycles m w one ss c n i
  pub same_pairs : active_pairs m w other ss c n ≡ active_pairs m w one ss c n
