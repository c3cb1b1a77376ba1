-- The pins that variables show, each with what is kept of its drive. No public clause cites this.
use Rattle.std.specs.Prelude.{◌≡◌, ℕ, ◌==◌, Bool, true, List, [], map, Some, slice_get, unwrap_or}
use Rattle.std.specs.List.{list_any, list_all}
use Rattle.sim_base.specs.declared.signal.Drive.{Drive}
use Rattle.sim_base.specs.declared.signal.Drive.TheVariants as drives
use Rattle.text_model.specs.Wave.{Source, Net, Strong, Weak, Variable}
use Rattle.vcd_text.specs.declared.follow.Scope.{Scope}
use Rattle.vcd_text.specs.declared.follow.Scope.TheVariants as scope
use Rattle.wave_lines.specs.Same.{same_drive}
use Rattle.vcd_text.specs.Chains.{PinsRest}

-- what a pin drives; Z where the drives lack it
abbrev pub drive_at : List Drive → ℕ → Drive
drive_at list p = unwrap_or (slice_get list p) drives.Z

abbrev pub has_pin : List (ℕ × Drive) → ℕ → Bool
has_pin pins p = list_any (λ k. k.0 == p) pins

-- whether it is a net that is shown, or one of some pins
abbrev pub is_among : List (ℕ × Drive) → Source → Bool
is_among pins (Net n) = true
is_among pins (Strong p) = has_pin pins p
is_among pins (Weak p) = has_pin pins p

-- each variable shows a net or one of some pins
abbrev pub AreAmong : List (ℕ × Drive) → List Source → Type 0
AreAmong pins shows = (k : ℕ) (s : Source) → slice_get shows k ≡ Some s → is_among pins s ≡ true

-- whether each of some pins drives what is kept of it
abbrev pub drive_as_kept : List Drive → List (ℕ × Drive) → Bool
drive_as_kept drives pins = list_all (λ k. same_drive (drive_at drives k.0) k.1) pins

-- some pins, each with what it drives
abbrev pub with_drives : List Drive → List (ℕ × Drive) → List (ℕ × Drive)
with_drives drives = map (λ k. (k.0, drive_at drives k.0))

-- what is kept after a row
abbrev pub kept_after : Scope → List Drive → List (ℕ × Drive) → List (ℕ × Drive)
kept_after scope.All drives pins = with_drives drives pins
kept_after (scope.NetsAndPins one two) drives pins = with_drives drives pins
kept_after (scope.Nets one two) drives pins = pins

-- the variables that show pins have the values that they have at some drives, which are those that are kept
pub record AreKept (pins : List (ℕ × Drive)) (variables : List Variable) (values : List ℕ) : Type 0 where
  pub drives : List Drive
  pub kept : drive_as_kept drives pins ≡ true
  pub values_are : PinsRest variables values [] drives
