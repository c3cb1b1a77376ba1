-- A twin: a board at cycle 0, and the chips of a second board that differs in them alone (profile).
use Rattle.std.specs.Prelude.{◌≡◌, ℕ, ◌+◌, ◌≤◌, List, [], length, map, Option, None, Some, true, false, slice_get, if◌then◌else◌}
use Rattle.std.specs.List.{sum_by}
use Rattle.sim_base.specs.declared.wiring.Wiring.{Wiring}
use Rattle.sim_base.specs.declared.wiring.Input.{Input}
use Rattle.part_law.specs.Machine.{Machine}
use Rattle.board_model.specs.Board.{input_at, states}
use Rattle.board_model.specs.Fits.{Fits}
use Rattle.board_model.specs.Fresh.{AreFresh}
use Rattle.law_board.specs.Active.{active_at, active_pairs, sum_below}
use Rattle.law_board.specs.FirstDiff.{Difference, first_diff, SamePins}
use Rattle.law_board.specs.Twin.{with_chips, chips_before}
use Rattle.law_board.specs.Worlds.{is_chip, TheseAre, SameRest}
use Rattle.board_run.specs.BoardView.{BoardView}
use Rattle.board_twin.specs.declared.twin.TwinEnd.{TwinEnd}
use Rattle.board_twin.specs.declared.twin.TwinEnd.TheVariants as ends

pub record TwinView (P : Type 0) : Type 0 where
  pub board : BoardView P
  -- the chips of the second board in the order of the parts
  pub chips : List P

abbrev pub differs : Difference → TwinEnd
differs d = ends.Differs d.cycle d.part d.pin d.one d.other

-- what a first difference is answered with
abbrev pub end_of : Option Difference → TwinEnd
end_of None = ends.Same
end_of (Some d) = differs d

-- the cycle of an answer, or the run's end
abbrev pub cycle_of : TwinEnd → ℕ → ℕ
cycle_of ends.Same n = n
cycle_of (ends.Differs t part pin a b) n = t

-- how often the parts of the board and the chips of the second one were woken
abbrev pub wakes_in : {P : Type 0} → (P → ℕ) → TwinView P → ℕ
wakes_in wakes twin = sum_by wakes twin.board.parts + sum_by wakes twin.chips

-- the second board's states
abbrev pub other_states : {S P : Type 0} → (P → S) → TwinView P → List S
other_states state twin = with_chips twin.board.wiring (map state twin.board.parts) (map state twin.chips)

-- A board at cycle 0 whose script is for no chip, and for each of its chips another at cycle 0 with as many pins.
pub record AreTwins {S P : Type 0} (m : Machine S) (state : P → S) (now wakes : P → ℕ) (twin : TwinView P) : Type 0 where
  pub start : twin.board.cycle ≡ 0
  pub alive : twin.board.given_up ≡ false
  pub few : length twin.board.parts ≤ 64
  pub fits : Fits m twin.board.wiring (map state twin.board.parts)
  pub each : (k : ℕ) → is_chip twin.board.wiring k ≡ true → (q : P) × (slice_get twin.chips (chips_before twin.board.wiring k) ≡ Some q)
  pub fresh : AreFresh m state now wakes twin.chips
  pub pins : SamePins m twin.board.wiring (map state twin.board.parts) (other_states state twin)
  pub unscripted : (t k : ℕ) → is_chip twin.board.wiring k ≡ true → input_at twin.board.inputs t k ≡ None

-- no chip of the two boards has contacts
pub record HaveNoContacts {S : Type 0} (m : Machine S) (w : Wiring) (xs ys : List S) : Type 0 where
  pub one : TheseAre (λ s. m.contacts s ≡ []) (is_chip w) xs
  pub other : TheseAre (λ s. m.contacts s ≡ []) (is_chip w) ys

-- the pairs of a cycle below n and a chip that is active in it
abbrev pub chip_pairs : {S : Type 0} → Machine S → Wiring → List Input → List S → ℕ → ℕ
chip_pairs m w inputs ss n = sum_below n (λ t. sum_below (length ss) (λ k. if is_chip w k then active_at m w inputs ss 0 k t else 0))

-- What two boards that differ in their chips alone are answered with: their first difference, wakes that are at most the active
-- pairs of the one board and of the other's chips before it, and up to it, its cycle included, the same rest.
pub record IsTwin {S : Type 0} (m : Machine S) (w : Wiring) (inputs : List Input) (xs ys : List S) (n : ℕ) (result : TwinEnd) (before after : ℕ) : Type 0 where
  pub sees : result ≡ end_of (first_diff m w inputs xs ys 0 n)
  pub rose : before ≤ after
  pub wakes : after ≤ before + active_pairs m w inputs xs 0 (cycle_of result n) + chip_pairs m w inputs ys (cycle_of result n)
  pub rest : (t : ℕ) → t ≤ cycle_of result n → SameRest w (states m w inputs xs 0 t) (states m w inputs ys 0 t)
