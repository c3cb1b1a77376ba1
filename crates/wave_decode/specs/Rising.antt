-- Rows in the order of their cycles, and the level that they say in a cycle.
use Rattle.std.specs.Prelude.{ℕ, suc, ◌≤◌, nat_le, min, if◌then◌else◌, List, [], ◌∷◌}
use Rattle.sim_base.specs.declared.signal.Level.{Level}
use Rattle.wave_decode.specs.Levels.{LevelRow}

-- rows of rising cycles, none before this one
abbrev pub IsRising : ℕ → List LevelRow → Type 0
IsRising from [] = Unit {0}
IsRising from (row ∷ rows) = (from ≤ row.0) × IsRising (suc row.0) rows

-- the level in cycle t: that of the last row that is not after it, or one found before
abbrev pub level_at : Level → List LevelRow → ℕ → Level
level_at found [] t = found
level_at found (row ∷ rows) t = level_at (if nat_le row.0 t then row.1 else found) rows t

-- the cycle of the first row, where it is before cycle n
abbrev pub first_cycle : ℕ → List LevelRow → ℕ
first_cycle n [] = n
first_cycle n (row ∷ rows) = min row.0 n
