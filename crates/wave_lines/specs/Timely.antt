-- What holds of what a line says. No public definition cites this.
use Rattle.std.specs.Prelude.{ℕ, ◌<◌, ◌≤◌}
use Rattle.wave_lines.specs.declared.line.Line.{Line}
use Rattle.wave_lines.specs.declared.line.Line.TheVariants as line

-- more than any time of a run, in 100 ps
abbrev pub latest : ℕ
latest = 1000000000000

-- a time is later than the cycle before and not after the run's end
abbrev pub IsTimely : ℕ → ℕ → Line → Type 0
IsTimely n cycle (line.Goes next) = Unit {0}
IsTimely n cycle (line.Time next) = (cycle < next) × (next ≤ n)
IsTimely n cycle (line.Value i value) = Unit {0}
IsTimely n cycle (line.Faulty number) = Unit {0}
