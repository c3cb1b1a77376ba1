-- A line from a cycle on. No public clause cites this.
use Rattle.std.specs.Prelude.{ℕ, Bool, List}
use Rattle.sim_base.specs.declared.signal.Level.{Level}
use Rattle.sim_base.specs.Signal.{reads}
use Rattle.wave_decode.specs.Levels.{LevelRow}
use Rattle.wave_decode.specs.Rising.{level_at}

-- what it reads in each cycle from there on
abbrev pub read_later : Level → List LevelRow → ℕ → Bool
read_later level rows t = reads (level_at level rows t)
