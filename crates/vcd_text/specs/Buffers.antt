-- A text that is built.
use Rattle.std.specs.Prelude.{ℕ, List}

pub record BufferState : Type 0 where
  pub text : List ℕ
  pub room : ℕ
