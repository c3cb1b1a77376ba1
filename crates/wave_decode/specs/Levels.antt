-- The levels that a wave says of its variables, cycle by cycle.
use Rattle.std.specs.Prelude.{ℕ, suc, nat_lt, ◌==◌, Bool, true, false, if◌then◌else◌, List, [], ◌∷◌, Option, None, Some, Result, Ok, Err, length}
use Rattle.std.specs.List.{list_all, position, range_with_len}
use Rattle.std.specs.Option.{option_map, option_map_or}
use Rattle.std.specs.Str.{bytes_eq}
use Rattle.sim_base.specs.declared.fault.Refusal.{Refusal}
use Rattle.sim_base.specs.declared.fault.Place.TheVariants as places
use Rattle.sim_base.specs.declared.signal.Level.{Level}
use Rattle.sim_base.specs.declared.signal.Level.TheVariants as levels
use Rattle.sim_refusals.specs.Refusals.{WaveVar}
use Rattle.text_model.specs.Wave.{char_0, char_1, char_x, char_z}
use Rattle.wave_lines.specs.declared.line.Stage.{Stage}
use Rattle.wave_lines.specs.declared.line.Stage.TheVariants as stages
use Rattle.wave_lines.specs.Changes.{value_from}
use Rattle.wave_lines.specs.Reading.{Change, end_fault, is_given, read_behind, unless}
use Rattle.wave_lines.specs.Rows.{rows_to, with_value}
use Rattle.wave_lines.specs.Same.{same_level}
use Rattle.wave_decode.specs.Head.{Head, head_of}

-- no time of a wave is after this cycle
abbrev pub last_cycle : ℕ
last_cycle = 160000000

-- each of so many variables may have each of the four values
abbrev pub below : ℕ → ℕ → Option Bool
below count i = if nat_lt i count then Some true else None

-- the last line is a time above 0
abbrev pub is_opened : Stage → Bool
is_opened stages.Opened = true
is_opened stage = false

-- the last cycle of a wave of so many variables, and the changes before it
abbrev pub at_end : ℕ → List ℕ → ℕ → Stage → ℕ → List Change → Result (ℕ × List Change) Refusal
at_end count rest k stage cycle said =
    unless (end_fault (is_opened stage) (list_all (is_given said) (range_with_len 0 count)) k rest) (cycle, said)

abbrev pub changes_in : ℕ → ℕ → List ℕ → Result (ℕ × List Change) Refusal
changes_in count number text = read_behind (below count) last_cycle (at_end count) (Ok (number, text))

-- the level that a value stands for
abbrev pub level_of : ℕ → Level
level_of value =
    if value == char_0 then levels.Low
    else if value == char_1 then levels.High
    else if value == char_x then levels.X
    else levels.Z

-- whether a change is of this variable
abbrev pub is_of : Option ℕ → Change → Bool
is_of variable c = option_map_or (λ i. c.variable == i) variable false

-- a variable's level in cycle t; Z where there is no such variable
abbrev pub level_said : Option ℕ → List Change → ℕ → Level
level_said variable said t = level_of (value_from (is_of variable) char_z said t)

-- from a row's cycle on, this level
abbrev pub LevelRow : Type 0
LevelRow = ℕ × Level

-- the rows of a variable, up to a cycle
abbrev pub rows_said : Option ℕ → List Change → ℕ → List LevelRow
rows_said variable said cycle = rows_to same_level (level_said variable said) (suc cycle)

-- So many cycles, and for each variable that was asked for its rows.
pub record Levels : Type 0 where
  pub cycles : ℕ
  pub rows : List (List LevelRow)

abbrev pub no_variable : Result Levels Refusal
no_variable = Err (record { number = WaveVar; place = places.Whole })

-- the rows of one variable or of two, where the wave has them
abbrev pub chosen : Option ℕ → Option (Option ℕ) → ℕ → List Change → Result Levels Refusal
chosen None second cycles said = no_variable
chosen (Some i) None cycles said = Ok (record { cycles = cycles; rows = rows_said (Some i) said cycles ∷ [] })
chosen (Some i) (Some None) cycles said = no_variable
chosen (Some i) (Some (Some j)) cycles said =
    Ok (record { cycles = cycles; rows = rows_said (Some i) said cycles ∷ rows_said (Some j) said cycles ∷ [] })

-- the number of the variable of a name
abbrev pub number_in : List (List ℕ) → List ℕ → Option ℕ
number_in names name = position (bytes_eq name) names

abbrev pub levels_chosen : Option ℕ → Option (Option ℕ) → Result (ℕ × List Change) Refusal → Result Levels Refusal
levels_chosen first second (Ok (cycles, said)) = chosen first second cycles said
levels_chosen first second (Err r) = Err r

abbrev pub levels_behind : List ℕ → Option (List ℕ) → Result Head Refusal → Result Levels Refusal
levels_behind first second (Ok head) =
    levels_chosen (number_in head.names first) (option_map (number_in head.names) second) (changes_in (length head.names) head.number head.rest)
levels_behind first second (Err r) = Err r

-- The levels that a wave says of the variables of one or two names, or the first refusal with its line; then 96 where it has no
-- variable of a name.
abbrev pub levels_text : List ℕ → Option (List ℕ) → List ℕ → Result Levels Refusal
levels_text first second text = levels_behind first second (head_of text)

-- how many names are given
abbrev pub names_given : Option (List ℕ) → ℕ
names_given None = 1
names_given (Some name) = 2

-- a row more for a variable, if it is this one
abbrev pub noted : Option ℕ → ℕ → ℕ → ℕ → List LevelRow → List LevelRow
noted variable i cycle value rows =
    if option_map_or (λ j. i == j) variable false then with_value same_level rows cycle (level_of value) else rows
