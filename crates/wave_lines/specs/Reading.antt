-- The lines of a wave that is read (IEEE 1364-2005, clause 18; the form and the order of its rules are the profile's). The values of
-- one time may stand in any order, and a value may be given again.
use Rattle.std.specs.Prelude.{ℕ, suc, ◌+◌, ◌-◌, ◌*◌, ◌/◌, ◌%◌, nat_lt, nat_le, ◌==◌, Bool, true, false, not, ◌&&◌, ◌||◌, if◌then◌else◌, List, [], ◌∷◌, ◌++◌}
use Rattle.std.specs.Prelude.{codes, Option, None, Some, Result, Ok, Err}
use Rattle.std.specs.List.{list_all, list_any}
use Rattle.std.specs.Char.{is_ascii_digit}
use Rattle.std.specs.Str.{bytes_eq}
use Rattle.sim_base.specs.declared.fault.Refusal.{Refusal}
use Rattle.sim_base.specs.declared.fault.Place.TheVariants as places
use Rattle.sim_refusals.specs.Refusals.{WaveHead, WaveLine, WaveTime, WaveName, WaveEnd}
use Rattle.text_numerals.specs.Numerals.{value_of}
use Rattle.text_model.specs.Wave.{char_0, char_1, char_x, char_z, first_printable, printable}
use Rattle.wave_lines.specs.declared.line.Line.{Line}
use Rattle.wave_lines.specs.declared.line.Line.TheVariants as line
use Rattle.wave_lines.specs.declared.line.Stage.{Stage}
use Rattle.wave_lines.specs.declared.line.Stage.TheVariants as stages

abbrev pub before_line : ℕ → List (List ℕ) → List (List ℕ)
before_line b [] = []
before_line b (line ∷ rest) = (b ∷ line) ∷ rest

-- the lines of a text that end in LF, which is no part of them
unfoldable pub ended_lines : List ℕ → List (List ℕ)
ended_lines [] = []
ended_lines (b ∷ bs) = if b == 10 then [] ∷ ended_lines bs else before_line b (ended_lines bs)

-- what stands behind the last LF of a text
unfoldable pub unended : List ℕ → List ℕ
unended [] = []
unended (b ∷ bs) = if list_any (λ a. a == 10) (b ∷ bs) then unended bs else b ∷ bs

-- how many lines of a text end
unfoldable pub line_count : List ℕ → ℕ
line_count [] = 0
line_count (b ∷ bs) = (if b == 10 then 1 else 0) + line_count bs

-- What stands behind a head, and the number of its first line; or the first line that is not the head's, from line k on.
unfoldable pub behind : ℕ → List ℕ → List ℕ → Result (ℕ × List ℕ) Refusal
behind k [] text = Ok (k, text)
behind k (h ∷ hs) [] = Err (record { number = WaveHead; place = places.Line k })
behind k (h ∷ hs) (b ∷ bs) = if h == b then behind (if h == 10 then suc k else k) hs bs else Err (record { number = WaveHead; place = places.Line k })

abbrev pub is_nothing : List ℕ → Bool
is_nothing [] = true
is_nothing (b ∷ bs) = false

-- a number in decimal digits without leading zeros
abbrev pub is_decimal : List ℕ → Bool
is_decimal [] = false
is_decimal (d ∷ ds) = (not (d == char_0) || is_nothing ds) && list_all is_ascii_digit (d ∷ ds)

-- A time of 100 ps is that of a cycle, of which each has 625, is above that of the cycle before it, and is not above the run's end.
abbrev pub judged : ℕ → ℕ → ℕ → Line
judged n cycle time = if time % 625 == 0 && (nat_lt (625 * cycle) time && nat_le time (625 * n)) then line.Time (time / 625) else line.Faulty WaveTime

-- what a line says as a time, `#` and a number, behind that of a cycle
abbrev pub time_said : ℕ → ℕ → List ℕ → Line
time_said n cycle [] = line.Faulty WaveLine
time_said n cycle (mark ∷ digits) = if mark == 35 && is_decimal digits then judged n cycle (value_of 10 digits) else line.Faulty WaveLine

abbrev pub is_value : ℕ → Bool
is_value v = (v == char_0 || v == char_1) || (v == char_x || v == char_z)

abbrev pub is_printable : ℕ → Bool
is_printable b = nat_le first_printable b && nat_lt b (first_printable + printable)

-- the number of the variable that has an identifier code
abbrev pub number_of : List ℕ → Option ℕ
number_of (a ∷ []) = if is_printable a then Some (a - first_printable) else None
number_of (a ∷ b ∷ []) = if is_printable a && is_printable b then Some (printable + (printable * (a - first_printable) + (b - first_printable))) else None
number_of code = None

abbrev pub value_of_number : ℕ → Option ℕ → Line
value_of_number value None = line.Faulty WaveLine
value_of_number value (Some i) = line.Value i value

-- what a line says as a value, a character and an identifier code, whichever variables there are
abbrev pub value_said : List ℕ → Line
value_said [] = line.Faulty WaveLine
value_said (value ∷ code) = if is_value value then value_of_number value (number_of code) else line.Faulty WaveLine

abbrev pub starts_time : List ℕ → Bool
starts_time [] = false
starts_time (b ∷ bs) = b == 35

-- What a line says where these may come next, behind the time of a cycle, whichever variables there are; the run ends at cycle n.
abbrev pub line_said : ℕ → Stage → ℕ → List ℕ → Line
line_said n stages.Start cycle text = if bytes_eq text (codes "#0") then line.Goes stages.Dump else line.Faulty WaveLine
line_said n stages.Dump cycle text = if bytes_eq text (codes "$dumpvars") then line.Goes stages.Initial else line.Faulty WaveLine
line_said n stages.Initial cycle text = if bytes_eq text (codes "$end") then line.Goes stages.Ended else value_said text
line_said n stages.Ended cycle text = time_said n cycle text
line_said n stages.Opened cycle text = value_said text
line_said n stages.Changed cycle text = if starts_time text then time_said n cycle text else value_said text

-- Of a number there may be no variable; and not every variable may have the value `x`.
abbrev pub value_of_variable : ℕ → ℕ → Option Bool → Line
value_of_variable value i None = line.Faulty WaveName
value_of_variable value i (Some any) = if value == char_x && not any then line.Faulty WaveLine else line.Value i value

-- what a line says of the variables that there are: none of a number, or whether it may have the value `x`
abbrev pub among : (ℕ → Option Bool) → Line → Line
among variables (line.Goes next) = line.Goes next
among variables (line.Time next) = line.Time next
among variables (line.Value i value) = value_of_variable value i (variables i)
among variables (line.Faulty number) = line.Faulty number

-- What a line says where these may come next.
abbrev pub verdict : (ℕ → Option Bool) → ℕ → Stage → ℕ → List ℕ → Line
verdict variables n stage cycle text = among variables (line_said n stage cycle text)

-- a value that a variable gets in a cycle
pub record Change : Type 0 where
  pub cycle : ℕ
  pub variable : ℕ
  pub value : ℕ

abbrev pub after_value : Stage → Stage
after_value stages.Initial = stages.Initial
after_value stage = stages.Changed

-- What line k leads to, behind so many changes, where `on` is what the later lines lead to.
abbrev pub after : {X : Type 0} → Line → ℕ → Stage → ℕ → List Change → (Stage → ℕ → List Change → Result X Refusal) → Result X Refusal
after (line.Goes next) k stage cycle said on = on next cycle said
after (line.Time next) k stage cycle said on = on stages.Opened next said
after (line.Value i value) k stage cycle said on = on (after_value stage) cycle (said ++ record { cycle = cycle; variable = i; value = value } ∷ [])
after (line.Faulty number) k stage cycle said on = Err (record { number = number; place = places.Line k })

-- whether a variable has a value in cycle 0
abbrev pub is_given : List Change → ℕ → Bool
is_given said i = list_any (λ c. c.cycle == 0 && c.variable == i) said

-- What is wrong at the end of a text, where line k would be next: the last line lacks its LF; or it is not the time of the run's
-- end, or not all variables have a value in cycle 0.
abbrev pub end_fault : Bool → Bool → ℕ → List ℕ → Option Refusal
end_fault over given k [] = if over && given then None else Some (record { number = WaveEnd; place = places.Line (k - 1) })
end_fault over given k (b ∷ bs) = Some (record { number = WaveLine; place = places.Line k })

abbrev pub unless : {X : Type 0} → Option Refusal → X → Result X Refusal
unless None x = Ok x
unless (Some r) x = Err r

module _ {X : Type 0} (variables : ℕ → Option Bool) (n : ℕ) (ending : ℕ → Stage → ℕ → List Change → Result X Refusal) where
  -- what the lines from number k on lead to, where `ending` is what the end of the text does
  unfoldable pub lines_from : ℕ → Stage → ℕ → List Change → List (List ℕ) → Result X Refusal
  lines_from k stage cycle said [] = ending k stage cycle said
  lines_from k stage cycle said (text ∷ lines) =
      after (verdict variables n stage cycle text) k stage cycle said (λ stage cycle said. lines_from (suc k) stage cycle said lines)

module _ {X : Type 0} (variables : ℕ → Option Bool) (n : ℕ) (ending : List ℕ → ℕ → Stage → ℕ → List Change → Result X Refusal) where
  -- What is read behind a head, from its first line on. The end is judged by what stands behind the last LF.
  abbrev pub read_behind : Result (ℕ × List ℕ) Refusal → Result X Refusal
  read_behind (Ok (k, text)) = lines_from variables n (ending (unended text)) k stages.Start 0 [] (ended_lines text)
  read_behind (Err r) = Err r
