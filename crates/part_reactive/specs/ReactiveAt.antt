-- A part with a behaviour on a board: before the step of `cycle`.
use Rattle.std.specs.Prelude.{ℕ, List, Bool}
use Rattle.sim_base.specs.declared.signal.Level.{Level}

pub record ReactiveAt (B : Type 0) : Type 0 where
  pub behaviour : B
  -- the levels of its last step
  pub held : List Level
  pub cycle : ℕ
  pub wakes : ℕ
  -- whether its last wake may have changed a drive or a contact
  pub changed : Bool
