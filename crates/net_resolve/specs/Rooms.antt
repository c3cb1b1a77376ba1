-- The room in which levels are found. No public clause cites this.
use Rattle.std.specs.Prelude.{◌≡◌, ℕ, vec_len}
use Rattle.net_resolve.specs.declared.levels.Room.{Room}

pub record FitsRoom (nets resistors : ℕ) (r : Room) : Type 0 where
  pub strong : vec_len r.strong ≡ nets
  pub bridges : vec_len r.bridges ≡ resistors
  pub areas : vec_len r.areas ≡ nets
  pub sums : vec_len r.sums ≡ nets
