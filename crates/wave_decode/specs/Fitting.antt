-- What holds of what a line says. No public clause cites this.
use Rattle.std.specs.Prelude.{ℕ, ◌<◌, ◌≤◌}
use Rattle.wave_lines.specs.declared.line.Line.{Line}
use Rattle.wave_lines.specs.declared.line.Line.TheVariants as line
use Rattle.wave_decode.specs.Levels.{last_cycle}

-- a time is later than the cycle before, and a value is that of a variable
abbrev pub IsFitting : ℕ → ℕ → Line → Type 0
IsFitting count cycle (line.Goes next) = Unit {0}
IsFitting count cycle (line.Time next) = (cycle < next) × (next ≤ last_cycle)
IsFitting count cycle (line.Value i value) = i < count
IsFitting count cycle (line.Faulty number) = Unit {0}
