-- The wave of a run as a value change dump (IEEE 1364-2005, clause 18, "Value change dump (VCD)
-- files", the four-state format; which variables there are and their codes are the profile's).
use Rattle.std.specs.Prelude.{ℕ, suc, ◌+◌, ◌-◌, ◌*◌, ◌/◌, ◌%◌, nat_lt, ◌==◌, Bool, true, false, if◌then◌else◌, List, [], ◌∷◌, ◌++◌, map, codes, decimal, slice_get}
use Rattle.std.specs.Option.{option_map_or}
use Rattle.sim_base.specs.declared.signal.Level.{Level}
use Rattle.sim_base.specs.declared.signal.Level.TheVariants as levels
use Rattle.sim_base.specs.declared.signal.Drive.{Drive}
use Rattle.sim_base.specs.Signal.{value_of, strong_of, is_weak, is_upper}
use Rattle.sim_base.specs.Rows.{Row}

-- What a variable shows: the level of a net, or what a pin drives strongly or weakly.
pub data Source : Type 0 where
  Net : ℕ → Source
  Strong : ℕ → Source
  Weak : ℕ → Source

pub record Variable : Type 0 where
  pub name : List ℕ
  pub shows : Source

-- the characters of the four values: `0`, `1`, `x` and `z`
abbrev pub char_0 : ℕ
char_0 = 48

abbrev pub char_1 : ℕ
char_1 = 49

abbrev pub char_x : ℕ
char_x = 120

abbrev pub char_z : ℕ
char_z = 122

abbrev pub bit_value : Bool → ℕ
bit_value false = char_0
bit_value true = char_1

-- a wiper alone on its net is shown as an input reads it
abbrev pub level_value : Level → ℕ
level_value levels.Low = char_0
level_value levels.High = char_1
level_value levels.X = char_x
level_value levels.Z = char_z
level_value (levels.Wiped w) = bit_value (is_upper w)

-- the value while the pin drives strongly, else `z`
abbrev pub strong_value : Drive → ℕ
strong_value d = option_map_or bit_value (strong_of d) char_z

-- the value while the pin drives weakly, else `z`
abbrev pub weak_value : Drive → ℕ
weak_value d = if is_weak d then option_map_or bit_value (value_of d) char_z else char_z

-- what a variable has at these levels and drives; `z` where they lack its net or pin
abbrev pub shown_value : List Level → List Drive → Source → ℕ
shown_value levels drives (Net n) = option_map_or level_value (slice_get levels n) char_z
shown_value levels drives (Strong p) = option_map_or strong_value (slice_get drives p) char_z
shown_value levels drives (Weak p) = option_map_or weak_value (slice_get drives p) char_z

-- the values of all variables in a row
abbrev pub values : List Variable → Row → List ℕ
values variables row = map (λ v. shown_value row.levels row.drives v.shows) variables

-- printable characters are those from `!` to `~`: the first, and how many there are
abbrev pub first_printable : ℕ
first_printable = 33

abbrev pub printable : ℕ
printable = 94

-- The identifier code of variable i: one printable character for the first 94, then two.
abbrev pub id_of : ℕ → List ℕ
id_of i =
    if nat_lt i printable then (first_printable + i) ∷ []
    else (first_printable + (i - printable) / printable) ∷ (first_printable + (i - printable) % printable) ∷ []

-- the declaration of variable i
abbrev pub declaration : ℕ → Variable → List ℕ
declaration i v = codes "$var wire 1 " ++ id_of i ++ codes " " ++ v.name ++ codes " $end\n"

-- the declarations from variable i on
unfoldable pub declarations : ℕ → List Variable → List ℕ
declarations i [] = []
declarations i (v ∷ vs) = declaration i v ++ declarations (suc i) vs

abbrev pub head : List Variable → List ℕ
head variables =
    codes "$timescale 100 ps $end\n$scope module board $end\n"
    ++ declarations 0 variables
    ++ codes "$upscope $end\n$enddefinitions $end\n"

-- the time of a cycle: a cycle of the 16 MHz clock is 625 times 100 ps
abbrev pub time_line : ℕ → List ℕ
time_line cycle = codes "#" ++ decimal (625 * cycle) ++ codes "\n"

-- value v of variable i
abbrev pub value_line : ℕ → ℕ → List ℕ
value_line i v = (v ∷ id_of i) ++ codes "\n"

-- the values from variable i on
unfoldable pub value_lines : ℕ → List ℕ → List ℕ
value_lines i [] = []
value_lines i (v ∷ vs) = value_line i v ++ value_lines (suc i) vs

-- the initial values, of the first row
abbrev pub initial_values : ℕ → List ℕ → List ℕ
initial_values cycle now = time_line cycle ++ codes "$dumpvars\n" ++ value_lines 0 now ++ codes "$end\n"

-- the values from variable i on that are not what they were before
unfoldable pub changes : ℕ → List ℕ → List ℕ → List ℕ
changes i before [] = []
changes i [] (v ∷ now) = []
changes i (u ∷ before) (v ∷ now) = (if u == v then [] else value_line i v) ++ changes (suc i) before now

-- how many variables have another value than before
unfoldable pub change_count : List ℕ → List ℕ → ℕ
change_count before [] = 0
change_count [] (v ∷ now) = 0
change_count (u ∷ before) (v ∷ now) = (if u == v then 0 else 1) + change_count before now

-- the value changes of a cycle; no text where no variable changed
abbrev pub value_changes : ℕ → List ℕ → List ℕ → List ℕ
value_changes cycle before now = if change_count before now == 0 then [] else time_line cycle ++ changes 0 before now

-- the text of rows that follow one with the values `before`
unfoldable pub later_text : List Variable → List ℕ → List Row → List ℕ
later_text variables before [] = []
later_text variables before (row ∷ rows) =
    value_changes row.cycle before (values variables row) ++ later_text variables (values variables row) rows

-- The wave of rows but for its last line; the first row is that of cycle 0.
unfoldable pub begun_text : List Variable → List Row → List ℕ
begun_text variables [] = []
begun_text variables (row ∷ rows) =
    head variables
    ++ initial_values row.cycle (values variables row)
    ++ later_text variables (values variables row) rows

-- The wave of the rows of a run that ends at cycle n.
abbrev pub wave_text : List Variable → List Row → ℕ → List ℕ
wave_text variables rows n = begun_text variables rows ++ time_line n

-- how many value changes the rows have that follow one with the values `before`
unfoldable pub later_count : List Variable → List ℕ → List Row → ℕ
later_count variables before [] = 0
later_count variables before (row ∷ rows) =
    change_count before (values variables row) + later_count variables (values variables row) rows

-- how many value changes the wave of rows has after the initial values
unfoldable pub wave_count : List Variable → List Row → ℕ
wave_count variables [] = 0
wave_count variables (row ∷ rows) = later_count variables (values variables row) rows
