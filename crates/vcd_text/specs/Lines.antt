-- What holds of what a line says. No public clause cites this.
use Rattle.std.specs.Prelude.{ℕ, ◌<◌, ◌≤◌, List, length}
use Rattle.text_model.specs.Wave.{Variable}
use Rattle.wave_lines.specs.declared.line.Line.{Line}
use Rattle.wave_lines.specs.declared.line.Line.TheVariants as line

-- a time is later than the cycle before and not after the run's end, and a value is that of a variable
abbrev pub IsFitting : List Variable → ℕ → ℕ → Line → Type 0
IsFitting variables n cycle (line.Goes next) = Unit {0}
IsFitting variables n cycle (line.Time next) = (cycle < next) × (next ≤ n)
IsFitting variables n cycle (line.Value i value) = i < length variables
IsFitting variables n cycle (line.Faulty number) = Unit {0}
