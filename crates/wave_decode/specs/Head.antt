-- The head of a wave of any variables, as it is read: the head that a writer leaves of nets with these names (IEEE 1364-2005,
-- clause 18; the form is the profile's).
use Rattle.std.specs.Prelude.{ℕ, ◌-◌, nat_le, nat_lt, Bool, ◌&&◌, if◌then◌else◌, List, [], ◌∷◌, ◌++◌, length, map, take, drop, codes, Option, None, Some, Result, Ok, Err}
use Rattle.std.specs.List.{list_all, list_any}
use Rattle.std.specs.Str.{bytes_eq}
use Rattle.sim_base.specs.declared.fault.Refusal.{Refusal}
use Rattle.sim_base.specs.declared.fault.Place.TheVariants as places
use Rattle.sim_refusals.specs.Refusals.{WaveHead}
use Rattle.text_model.specs.Wave.{Net, Variable, printable, id_of, declarations}
use Rattle.wave_lines.specs.Reading.{behind, ended_lines, is_printable}

-- variables that show nets, of which only the names count here
abbrev pub as_net : List ℕ → Variable
as_net name = record { name = name; shows = Net 0 }

abbrev pub nets : List (List ℕ) → List Variable
nets names = map as_net names

-- a name: 1 to 129 bytes from `!` to `~`
abbrev pub is_name : List ℕ → Bool
is_name name = (nat_le 1 (length name) && nat_le (length name) 129) && list_all is_printable name

-- how many variables there may be
abbrev pub most_variables : ℕ
most_variables = 8930

-- the declaration of variable i, without its LF
abbrev pub declared_line : ℕ → List ℕ → List ℕ
declared_line i name = codes "$var wire 1 " ++ id_of i ++ codes " " ++ name ++ codes " $end"

-- where its name begins
abbrev pub name_start : ℕ → ℕ
name_start i = if nat_lt i printable then 14 else 15

-- what stands where a declaration of variable i has its name
abbrev pub name_in : ℕ → List ℕ → List ℕ
name_in i line = take (length line - 5 - name_start i) (drop (name_start i) line)

-- the name that a line declares for variable i; none where it does not
abbrev pub declared_name : ℕ → List ℕ → Option (List ℕ)
declared_name i line =
    if is_name (name_in i line) && bytes_eq line (declared_line i (name_in i line)) then Some (name_in i line) else None

-- the same, as far as there may be variables
abbrev pub next_name : ℕ → List ℕ → Option (List ℕ)
next_name i line = if nat_lt i most_variables then declared_name i line else None

-- of the first line
abbrev pub first_name : ℕ → List (List ℕ) → Option (List ℕ)
first_name i [] = None
first_name i (line ∷ lines) = next_name i line

-- a further name, which none before is, and what comes of it
abbrev pub with_name : List (List ℕ) → Option (List ℕ) → (List (List ℕ) → List (List ℕ)) → List (List ℕ)
with_name names None on = names
with_name names (Some name) on = if list_any (bytes_eq name) names then names else on (names ++ name ∷ [])

-- The names of the variables that the lines after these names declare, one a line, up to the first line that declares none.
unfoldable pub names_from : List (List ℕ) → List (List ℕ) → List (List ℕ)
names_from names [] = names
names_from names (line ∷ lines) = with_name names (next_name (length names) line) (λ names. names_from names lines)

-- the lines of a head before and after its declarations
abbrev pub first_lines : List ℕ
first_lines = codes "$timescale 100 ps $end\n$scope module board $end\n"

abbrev pub last_lines : List ℕ
last_lines = codes "$upscope $end\n$enddefinitions $end\n"

-- A head: the names of its variables, and what stands after it, with the number of its first line.
pub record Head : Type 0 where
  pub names : List (List ℕ)
  pub number : ℕ
  pub rest : List ℕ

abbrev pub head_with : List (List ℕ) → Result (ℕ × List ℕ) Refusal → Result Head Refusal
head_with names (Ok (k, rest)) = Ok (record { names = names; number = k; rest = rest })
head_with names (Err r) = Err r

-- a head has at least one variable
abbrev pub head_of_names : ℕ → List ℕ → List (List ℕ) → Result Head Refusal
head_of_names k text [] = Err (record { number = WaveHead; place = places.Line k })
head_of_names k text (name ∷ names) =
    head_with (name ∷ names) (behind k (declarations 0 (nets (name ∷ names)) ++ last_lines) text)

abbrev pub head_behind : Result (ℕ × List ℕ) Refusal → Result Head Refusal
head_behind (Ok (k, text)) = head_of_names k text (names_from [] (ended_lines text))
head_behind (Err r) = Err r

-- The head of a wave, or 90 with the first line that is not a head's.
abbrev pub head_of : List ℕ → Result Head Refusal
head_of text = head_behind (behind 1 first_lines text)
