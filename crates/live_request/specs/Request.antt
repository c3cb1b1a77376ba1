-- What a line asks a live board for (profile).
use Rattle.std.specs.Prelude.{ℕ, ◌-◌, ◌*◌, ◌/◌, List, [], ◌∷◌, Bool, true, false, Option, None, Some, Result, Ok, Err, if◌then◌else◌, codes}
use Rattle.std.specs.Str.{bytes_eq}
use Rattle.std.specs.Char.{is_ascii_digit}
use Rattle.sim_base.specs.declared.limits.TheConstants.{MOST_CYCLES}
use Rattle.sim_refusals.specs.Refusals.{RequestUnknown, RequestWords}
use Rattle.live_request.specs.declared.request.Bytes.{Bytes}
use Rattle.live_request.specs.Words.{◌>>=◌, words, next, ended, number, next_number, ends_in, before}
use Rattle.live_request.specs.Condition.{Condition, conditions}
use Rattle.live_request.specs.Addresses.{addresses}

-- A line of a script: a part is pressed, released (`press`) or set to a value in a cycle, or in the live board's own.
pub record Acting : Type 0 where
  pub cycle : Option ℕ
  pub part : List ℕ
  pub press : Bool
  pub value : ℕ

-- `Run until conditions`: runs up to a cycle, or to the first in which a condition holds. `Acts`: a line of a script.
-- `Level name`: the value of a variable of the wave. `Report`, `Wave`: the report of the live board's cycle, and the wave so
-- far. `Core`: the Uno's core. `Data`, `Flash`, `Eeprom`: bytes of these. `Mark`, `Unmark`: word addresses that are marked, or no
-- more. `Count`, `Counts`: counts how often instructions begin, and what was counted. `Light anode cathode`: looks from now on
-- for how long one variable is 1 and, where it is named, another 0; `Lights`: what was seen so. `Prints`, `Displays`: what chips
-- printed and drew. `Omissions`: what firmware asked for that is left out.
pub data Request : Type 0 where
  Run : ℕ → List Condition → Request
  Acts : Acting → Request
  Level : List ℕ → Request
  Report : Request
  Wave : Request
  Core : Request
  Data : Bytes → Request
  Flash : Bytes → Request
  Eeprom : Bytes → Request
  Mark : List ℕ → Request
  Unmark : List ℕ → Request
  Count : Request
  Counts : Request
  Light : List ℕ → Option (List ℕ) → Request
  Lights : Request
  Prints : Request
  Displays : Request
  Omissions : Request
  Quit : Request

abbrev pub run : List (List ℕ) → Result Request ℕ
run rest = next_number MOST_CYCLES rest >>= λ x. conditions x.1 >>= λ all. Ok (Run x.0 all)

-- a time: a microsecond has 16 cycles
abbrev pub time : List ℕ → Result ℕ ℕ
time word =
    if ends_in (codes "us") word then (number (MOST_CYCLES / 16) (before (codes "us") word) >>= λ n. Ok (16 * n))
    else if ends_in (codes "cy") word then number MOST_CYCLES (before (codes "cy") word)
    else Err RequestWords

abbrev pub pressed : Option ℕ → ℕ → List (List ℕ) → Result Request ℕ
pressed cycle value rest = next rest >>= λ x. ended (Acts (record { cycle = cycle; part = x.0; press = true; value = value })) x.1

abbrev pub value_set : Option ℕ → List (List ℕ) → Result Request ℕ
value_set cycle rest =
    next rest >>= λ x. next_number 99999999999999 x.1 >>= λ y. ended (Acts (record { cycle = cycle; part = x.0; press = false; value = y.0 })) y.1

-- a line of a script after its time, if it has one; another word breaks this rule
abbrev pub acts_by : ℕ → Option ℕ → List ℕ → List (List ℕ) → Result Request ℕ
acts_by rule cycle verb rest =
    if bytes_eq verb (codes "press") then pressed cycle 1 rest
    else if bytes_eq verb (codes "release") then pressed cycle 0 rest
    else if bytes_eq verb (codes "set") then value_set cycle rest
    else Err rule

abbrev pub timed : List ℕ → List (List ℕ) → Result Request ℕ
timed word rest = time word >>= λ cycle. next rest >>= λ x. acts_by RequestWords (Some cycle) x.0 x.1

-- an address within a room, and a count that stays within it
abbrev pub span : ℕ → List (List ℕ) → Result Bytes ℕ
span room rest = next_number (room - 1) rest >>= λ x. next_number (room - x.0) x.1 >>= λ y. ended (record { from = x.0; count = y.0 }) y.1

abbrev pub level : List (List ℕ) → Result Request ℕ
level rest = next rest >>= λ x. ended (Level x.0) x.1

abbrev pub light_after : List ℕ → List (List ℕ) → Result Request ℕ
light_after anode [] = Ok (Light anode None)
light_after anode (word ∷ rest) = ended (Light anode (Some word)) rest

abbrev pub light : List (List ℕ) → Result Request ℕ
light rest = next rest >>= λ x. light_after x.0 x.1

abbrev pub asked_by : List ℕ → List (List ℕ) → Result Request ℕ
asked_by word rest =
    if bytes_eq word (codes "run") then run rest
    else if bytes_eq word (codes "level") then level rest
    else if bytes_eq word (codes "report") then ended Report rest
    else if bytes_eq word (codes "wave") then ended Wave rest
    else if bytes_eq word (codes "core") then ended Core rest
    else if bytes_eq word (codes "data") then (span 2304 rest >>= λ s. Ok (Data s))
    else if bytes_eq word (codes "flash") then (span 32768 rest >>= λ s. Ok (Flash s))
    else if bytes_eq word (codes "eeprom") then (span 1024 rest >>= λ s. Ok (Eeprom s))
    else if bytes_eq word (codes "mark") then (addresses rest >>= λ all. Ok (Mark all))
    else if bytes_eq word (codes "unmark") then (addresses rest >>= λ all. Ok (Unmark all))
    else if bytes_eq word (codes "count") then ended Count rest
    else if bytes_eq word (codes "counts") then ended Counts rest
    else if bytes_eq word (codes "light") then light rest
    else if bytes_eq word (codes "lights") then ended Lights rest
    else if bytes_eq word (codes "prints") then ended Prints rest
    else if bytes_eq word (codes "displays") then ended Displays rest
    else if bytes_eq word (codes "omissions") then ended Omissions rest
    else if bytes_eq word (codes "quit") then ended Quit rest
    else acts_by RequestUnknown None word rest

abbrev pub begins_with_digit : List ℕ → Bool
begins_with_digit [] = false
begins_with_digit (b ∷ bs) = is_ascii_digit b

abbrev pub asked_words : List (List ℕ) → Result Request ℕ
asked_words [] = Err RequestUnknown
asked_words (word ∷ rest) = if begins_with_digit word then timed word rest else asked_by word rest

-- a line without a CR at its end
abbrev pub without_return : List ℕ → List ℕ
without_return line = if ends_in (13 ∷ []) line then before (13 ∷ []) line else line

-- what a line asks for, or the number of the first rule that its form breaks
abbrev pub request_of : List ℕ → Result Request ℕ
request_of line = asked_words (words (without_return line))
