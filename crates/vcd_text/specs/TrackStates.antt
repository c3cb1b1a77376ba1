-- How a reader keeps the rows of pins. No public clause cites this.
use Rattle.std.specs.Prelude.{ℕ, suc, ◌<◌, ◌≤◌, ◌≡◌, Bool, List, [], ◌∷◌, length, Some, slice_get, slice_set}
use Rattle.std.specs.List.{All}
use Rattle.std.specs.Option.{option_map_or}
use Rattle.sim_base.specs.declared.signal.Drive.{Drive}
use Rattle.sim_base.specs.declared.signal.Drive.TheVariants as drives
use Rattle.text_model.specs.Wave.{Source, Net, Strong, Weak, Variable, char_z}
use Rattle.wave_lines.specs.Reading.{Change}
use Rattle.wave_lines.specs.Gifts.{AreGiven}
use Rattle.wave_lines.specs.Rows.{with_value}
use Rattle.wave_lines.specs.Same.{same_drive}
use Rattle.vcd_text.specs.Tracks.{DriveRows, drive_of, strong_at, weak_at, drive_said, rows_to}

-- of one pin: the values of its two variables, and its rows
pub record TrackState : Type 0 where
  pub strong : ℕ
  pub weak : ℕ
  pub rows : DriveRows

-- of which nothing is said
abbrev pub blank : TrackState
blank = record { strong = char_z; weak = char_z; rows = (0, drives.Z) ∷ [] }

-- of all pins, and which variables have a value in cycle 0
pub record TrackStates : Type 0 where
  pub given : List Bool
  pub pins : List TrackState

abbrev pub with_drive : DriveRows → ℕ → Drive → DriveRows
with_drive rows cycle drive = with_value same_drive rows cycle drive

abbrev pub strongly : TrackState → ℕ → ℕ → TrackState
strongly s cycle value = record { strong = value; weak = s.weak; rows = with_drive s.rows cycle (drive_of value s.weak) }

abbrev pub weakly : TrackState → ℕ → ℕ → TrackState
weakly s cycle value = record { strong = s.strong; weak = value; rows = with_drive s.rows cycle (drive_of s.strong value) }

-- what is left of pin p
abbrev pub at_pin : (TrackState → TrackState) → List TrackState → ℕ → List TrackState
at_pin f pins p = option_map_or (λ s. slice_set pins p (f s)) (slice_get pins p) pins

-- a variable of this kind gets a value in a cycle
abbrev pub pins_after : List TrackState → Source → ℕ → ℕ → List TrackState
pins_after pins (Net n) cycle value = pins
pins_after pins (Strong p) cycle value = at_pin (λ s. strongly s cycle value) pins p
pins_after pins (Weak p) cycle value = at_pin (λ s. weakly s cycle value) pins p

-- what changes say of a pin up to a cycle
abbrev pub track_at : List Variable → List Change → ℕ → ℕ → TrackState
track_at variables said cycle pin = record {
  strong = strong_at variables said pin cycle;
  weak = weak_at variables said pin cycle;
  rows = rows_to (drive_said variables said pin) (suc cycle);
}

-- what is kept is what changes say, none of which is later than a cycle
pub record AreSaid (variables : List Variable) (pins cycle : ℕ) (said : List Change) (s : TrackStates) : Type 0 where
  pub so_far : All (λ (c : Change). c.cycle ≤ cycle) said
  pub all_pins : length s.pins ≡ pins
  pub tracks : (p : ℕ) → p < pins → slice_get s.pins p ≡ Some (track_at variables said cycle p)
  pub given : AreGiven (length variables) said s.given
