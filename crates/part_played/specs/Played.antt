-- A part of a board, or a player in a chip's place, as one machine (profile).
use Rattle.std.specs.Prelude.{◌⊎◌, ℕ}
use Rattle.part_either.specs.EitherPart.{either_state, on_either}
use Rattle.part_either.specs.declared.either.Either.{Either}
use Rattle.law_board.specs.Player.{PlayerState}
use Rattle.any_part.specs.AnyPart.{AnyState, AnyPart}
use Rattle.any_part.specs.AnyPart as parts
use Rattle.trace_run.specs.PlayerAt.{PlayerAt}

abbrev pub PlayedState : Type 0
PlayedState = AnyState ⊎ PlayerState

-- a part with what is known of it besides its state
abbrev pub PlayedPart : Type 0
PlayedPart = Either AnyPart PlayerAt

abbrev pub state_of : PlayedPart → PlayedState
state_of = either_state parts.state_of (λ p. p.player)

abbrev pub cycle_of : PlayedPart → ℕ
cycle_of = on_either parts.cycle_of (λ p. p.player.cycle)

abbrev pub wakes_of : PlayedPart → ℕ
wakes_of = on_either parts.wakes_of (λ p. p.wakes)
