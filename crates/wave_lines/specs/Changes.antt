-- What changes say of a variable in a cycle.
use Rattle.std.specs.Prelude.{ℕ, nat_le, Bool, ◌&&◌, if◌then◌else◌, List, [], ◌∷◌}
use Rattle.wave_lines.specs.Reading.{Change}

-- the last value that changes which pass a test give at or before cycle t, after one found before
abbrev pub value_from : (Change → Bool) → ℕ → List Change → ℕ → ℕ
value_from test found [] t = found
value_from test found (c ∷ said) t = value_from test (if test c && nat_le c.cycle t then c.value else found) said t
