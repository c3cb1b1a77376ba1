-- Scripts: what is done to the parts of a board, and when (profile).
use Rattle.std.specs.Prelude.{◌≡◌, ℕ, suc, ◌-◌, ◌*◌, ◌==◌, List, [], ◌∷◌, ◌++◌, length, take, drop, Bool, true, false, ◌||◌, nat_lt, nat_le, Option, None, Some, Result, Ok, Err, if◌then◌else◌, codes}
use Rattle.std.specs.Option.{option_map}
use Rattle.std.specs.Str.{bytes_eq}
use Rattle.sim_base.specs.declared.fault.Refusal.{Refusal}
use Rattle.sim_base.specs.declared.fault.Place.TheVariants as places
use Rattle.sim_refusals.specs.Refusals.{ScriptLine, ScriptOrder, ScriptLimit}
use Rattle.sim_base.specs.declared.limits.TheConstants.{LONGEST_RUN}
use Rattle.text_model.specs.Lines.{lines, before_first_line}
use Rattle.text_numerals.specs.Numerals.{numeral}
use Rattle.document_model.specs.Diagram.{is_id}
use Rattle.input_texts.specs.declared.script.ScriptRow.{ScriptRow}
use Rattle.input_script.specs.declared.action.Action.{Action}

abbrev pub starts_space : List ℕ → Bool
starts_space [] = false
starts_space (b ∷ bs) = b == 32

-- The words of a line, with one or more spaces between two. A space before the first one or after the last one leaves an
-- empty word there.
unfoldable pub words : List ℕ → List (List ℕ)
words [] = [] ∷ []
words (b ∷ bs) = if b == 32 then (if starts_space bs then words bs else [] ∷ words bs) else before_first_line b (words bs)

abbrev pub ends_in : List ℕ → List ℕ → Bool
ends_in end word = bytes_eq (drop (length word - length end) word) end

-- a number of 1 to 9 digits before an end
abbrev pub count_before : List ℕ → List ℕ → Option ℕ
count_before end word = numeral 10 9 (take (length word - length end) word)

-- the cycle of a time: a microsecond has 16 cycles
abbrev pub time_of : List ℕ → Option ℕ
time_of word =
    if ends_in (codes "us") word then option_map (λ n. 16 * n) (count_before (codes "us") word)
    else if ends_in (codes "cy") word then count_before (codes "cy") word
    else None

-- the value of a verb without a number
abbrev pub pressed : List ℕ → Option ℕ
pressed verb = if bytes_eq verb (codes "press") then Some 1 else if bytes_eq verb (codes "release") then Some 0 else None

-- the value of `set`, of 1 to 5 digits
abbrev pub value_set : List ℕ → List ℕ → Option ℕ
value_set verb value = if bytes_eq verb (codes "set") then numeral 10 5 value else None

abbrev pub made : Bool → Option ℕ → List ℕ → Option ℕ → Option Action
made press None part value = None
made press (Some cycle) part None = None
made press (Some cycle) part (Some value) = if is_id part then Some (record { cycle = cycle; part = part; press = press; value = value }) else None

-- what the words of a line do
abbrev pub action_of : List (List ℕ) → Option Action
action_of (time ∷ verb ∷ part ∷ []) = made true (time_of time) part (pressed verb)
action_of (time ∷ verb ∷ part ∷ value ∷ []) = made false (time_of time) part (value_set verb value)
action_of words = None

-- What a line is for: nothing, an action, or a refusal's number.
pub data Verdict : Type 0 where
  Passed : Verdict
  Acts : Action → Verdict
  Faulty : ℕ → Verdict

-- an empty line and one that begins with `#` are passed over
abbrev pub is_passed : List ℕ → Bool
is_passed [] = true
is_passed (b ∷ bs) = b == 35

-- No time falls, none is above 160,000,000 cycles (10 s), and at most 4,096 lines act; `last` is the time of the line
-- before, and `count` of them have acted so far.
abbrev pub judged : ℕ → ℕ → Option Action → Verdict
judged last count None = Faulty ScriptLine
judged last count (Some action) =
    if nat_lt action.cycle last || nat_lt LONGEST_RUN action.cycle then Faulty ScriptOrder
    else if nat_le 4096 count then Faulty ScriptLimit
    else Acts action

abbrev pub verdict : ℕ → ℕ → List ℕ → Verdict
verdict last count line = if is_passed line then Passed else judged last count (action_of (words line))

abbrev pub row_of : ℕ → Action → ScriptRow
row_of k action = record { line = k; cycle = action.cycle; part = action.part; press = action.press; value = action.value }

-- rows before those that later lines give
abbrev pub with_rows : List ScriptRow → Result (List ScriptRow) Refusal → Result (List ScriptRow) Refusal
with_rows front (Ok rows) = Ok (front ++ rows)
with_rows front (Err r) = Err r

-- What a verdict on line k leads to, where `on` is what the later lines give after a time and so many actions.
abbrev pub after : Verdict → ℕ → ℕ → ℕ → (ℕ → ℕ → Result (List ScriptRow) Refusal) → Result (List ScriptRow) Refusal
after Passed k last count on = on last count
after (Acts action) k last count on = with_rows (row_of k action ∷ []) (on action.cycle (suc count))
after (Faulty number) k last count on = Err (record { number = number; place = places.Line k })

-- the rows of the lines from number k on
unfoldable pub rows_from : ℕ → ℕ → ℕ → List (List ℕ) → Result (List ScriptRow) Refusal
rows_from k last count [] = Ok []
rows_from k last count (line ∷ rest) = after (verdict last count line) k last count (λ last count. rows_from (suc k) last count rest)

-- The script that a text stands for, or the first refusal with its line: lines count from 1.
abbrev pub script_of : List ℕ → Result (List ScriptRow) Refusal
script_of text = rows_from 1 0 0 (lines text)

abbrev pub ScriptText : List ℕ → List ScriptRow → Type 0
ScriptText text script = script_of text ≡ Ok script
