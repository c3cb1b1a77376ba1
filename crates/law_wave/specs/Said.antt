-- The changes that the wave of rows says, in their order.
use Rattle.std.specs.Prelude.{ℕ, suc, ◌==◌, List, [], ◌∷◌, ◌++◌, if◌then◌else◌}
use Rattle.sim_base.specs.Rows.{Row}
use Rattle.text_model.specs.Wave.{Variable, values}
use Rattle.wave_lines.specs.Reading.{Change}

-- one more change
abbrev pub told : List Change → ℕ → ℕ → ℕ → List Change
told said cycle i value = said ++ record { cycle = cycle; variable = i; value = value } ∷ []

-- the variables from number i on get these values
abbrev pub all_told : List Change → ℕ → ℕ → List ℕ → List Change
all_told said cycle i [] = said
all_told said cycle i (v ∷ now) = all_told (told said cycle i v) cycle (suc i) now

-- those get them that had others
abbrev pub some_told : List Change → ℕ → ℕ → List ℕ → List ℕ → List Change
some_told said cycle i before [] = said
some_told said cycle i [] (v ∷ now) = said
some_told said cycle i (u ∷ before) (v ∷ now) = some_told (if u == v then said else told said cycle i v) cycle (suc i) before now

-- behind a row that has the values `before`
abbrev pub later_told : List Variable → List Change → List ℕ → List Row → List Change
later_told variables said before [] = said
later_told variables said before (row ∷ rows) =
    later_told variables (some_told said row.cycle 0 before (values variables row)) (values variables row) rows

abbrev pub rows_told : List Variable → List Row → List Change
rows_told variables [] = []
rows_told variables (row ∷ rows) = later_told variables (all_told [] row.cycle 0 (values variables row)) (values variables row) rows
