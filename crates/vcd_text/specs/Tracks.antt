-- What a wave says of the pins of chips: from which cycle on each drives what (profile).
use Rattle.std.specs.Prelude.{ℕ, suc, ◌==◌, Bool, false, if◌then◌else◌, List, map, slice_get, Result, Ok, Err}
use Rattle.std.specs.List.{range_with_len}
use Rattle.std.specs.Option.{option_map_or}
use Rattle.sim_base.specs.declared.fault.Refusal.{Refusal}
use Rattle.sim_base.specs.declared.signal.Drive.{Drive}
use Rattle.sim_base.specs.declared.signal.Drive.TheVariants as drives
use Rattle.text_model.specs.Wave.{Source, Net, Strong, Weak, Variable, char_0, char_1, char_z}
use Rattle.wave_lines.specs.Reading.{Change}
use Rattle.wave_lines.specs.Changes.{value_from}
use Rattle.wave_lines.specs.Rows as rows
use Rattle.wave_lines.specs.Same.{same_drive}
use Rattle.vcd_text.specs.Reading.{changes_of}

abbrev pub is_strong : ℕ → Source → Bool
is_strong pin (Net n) = false
is_strong pin (Strong p) = p == pin
is_strong pin (Weak p) = false

abbrev pub is_weak : ℕ → Source → Bool
is_weak pin (Net n) = false
is_weak pin (Strong p) = false
is_weak pin (Weak p) = p == pin

-- whether the variable of a change shows what passes a test
abbrev pub shows : List Variable → (Source → Bool) → Change → Bool
shows variables test c = option_map_or (λ v. test v.shows) (slice_get variables c.variable) false

-- the values that a pin's two variables have in cycle t; `z` where none is given
abbrev pub strong_at : List Variable → List Change → ℕ → ℕ → ℕ
strong_at variables said pin t = value_from (shows variables (is_strong pin)) char_z said t

abbrev pub weak_at : List Variable → List Change → ℕ → ℕ → ℕ
weak_at variables said pin t = value_from (shows variables (is_weak pin)) char_z said t

-- what a pin drives that has these values; a strong one counts before a weak one
abbrev pub drive_of : ℕ → ℕ → Drive
drive_of strong weak =
    if strong == char_0 then drives.Low
    else if strong == char_1 then drives.High
    else if weak == char_0 then drives.PullLow
    else if weak == char_1 then drives.PullHigh
    else drives.Z

-- what a pin drives in cycle t
abbrev pub drive_said : List Variable → List Change → ℕ → ℕ → Drive
drive_said variables said pin t = drive_of (strong_at variables said pin t) (weak_at variables said pin t)

-- a pin's rows: from this cycle on, this drive
abbrev pub DriveRows : Type 0
DriveRows = List (ℕ × Drive)

-- the rows of the first n cycles
abbrev pub rows_to : (ℕ → Drive) → ℕ → DriveRows
rows_to f n = rows.rows_to same_drive f n

-- the rows of each of the first `pins` pins of a board, up to the run's end
abbrev pub tracks_of : List Variable → ℕ → ℕ → Result (List Change) Refusal → Result (List DriveRows) Refusal
tracks_of variables pins n (Ok said) = Ok (map (λ pin. rows_to (drive_said variables said pin) (suc n)) (range_with_len 0 pins))
tracks_of variables pins n (Err r) = Err r

-- What a wave of so many cycles says of the first `pins` pins of a board, or the first refusal with its line.
abbrev pub wave_rows : List Variable → ℕ → ℕ → List ℕ → Result (List DriveRows) Refusal
wave_rows variables pins n text = tracks_of variables pins n (changes_of variables n text)
