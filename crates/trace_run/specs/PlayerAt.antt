-- A player on a board: before the step of its cycle.
use Rattle.std.specs.Prelude.{ℕ, ◌+◌}
use Rattle.part_law.specs.declared.span.Span.{Span}
use Rattle.law_board.specs.Player.{PlayerState}

pub record PlayerAt : Type 0 where
  pub player : PlayerState
  pub wakes : ℕ
  -- the pins whose drives its last wake may have changed
  pub moved : Span

-- after a step on the levels that it holds
abbrev pub stepped : PlayerState → PlayerState
stepped s = record { rows = s.rows; cycle = s.cycle + 1; held = s.held }
