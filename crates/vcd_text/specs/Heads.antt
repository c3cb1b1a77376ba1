-- The head of a wave, and the text of one row after another.
use Rattle.std.specs.Prelude.{ℕ, ◌+◌, ◌*◌, List, ◌++◌, Bool, true, if◌then◌else◌, length}
use Rattle.sim_base.specs.Rows.{Row}
use Rattle.text_model.specs.Wave.{Variable, values, head, initial_values, value_changes, change_count}

-- the variables, their values in the last row, the text that is kept, and whether there was a row
pub record HeadState : Type 0 where
  pub variables : List Variable
  pub values : List ℕ
  pub text : List ℕ
  pub started : Bool

-- how much text may be kept before a row
abbrev pub gathered : ℕ
gathered = 16384

-- the room that any row's text takes: the head, a time, `$dumpvars`, a line for each variable, `$end`
abbrev pub text_room : List Variable → ℕ
text_room variables = length (head variables) + 57 + 4 * length variables

-- the text of a row, which begins with the head where it is the first
abbrev pub row_text : HeadState → Row → List ℕ
row_text s row =
    if s.started then value_changes row.cycle s.values (values s.variables row)
    else head s.variables ++ initial_values row.cycle (values s.variables row)

-- after a row: its values, and its text behind what was kept
abbrev pub after_row : HeadState → Row → HeadState
after_row s row = record {
  variables = s.variables;
  values = values s.variables row;
  text = s.text ++ row_text s row;
  started = true;
}

-- how many values a row changes
abbrev pub changed_by : HeadState → Row → ℕ
changed_by s row = if s.started then change_count s.values (values s.variables row) else 0
