-- What the wave of rows says of pins.
use Rattle.std.specs.Prelude.{◌≡◌, ℕ, ◌<◌, List, [], ◌∷◌, Bool, true, if◌then◌else◌, Option}
use Rattle.std.specs.List.{list_any}
use Rattle.std.specs.Option.{option_map_or}
use Rattle.sim_base.specs.declared.signal.Drive.{Drive}
use Rattle.sim_base.specs.declared.signal.Drive.TheVariants as drives
use Rattle.sim_base.specs.Rows.{Row}
use Rattle.text_model.specs.Wave.{Source, Strong, Weak, Variable, char_z, shown_value}
use Rattle.law_board.specs.InForce.{row_at}
use Rattle.vcd_text.specs.Tracks.{drive_of, is_strong, is_weak}

-- each row is of a later cycle than the one before it, and all are of cycles before n
abbrev pub AreLater : ℕ → List Row → ℕ → Type 0
AreLater cycle [] n = cycle < n
AreLater cycle (row ∷ rows) n = (cycle < row.cycle) × AreLater row.cycle rows n

-- the rows of a run of n cycles: the first is that of cycle 0
abbrev pub AreOfRun : List Row → ℕ → Type 0
AreOfRun [] n = ⊥
AreOfRun (row ∷ rows) n = (row.cycle ≡ 0) × AreLater 0 rows n

-- whether a variable shows what passes a test
abbrev pub is_shown : (Source → Bool) → List Variable → Bool
is_shown test variables = list_any (λ v. test v.shows) variables

-- what the row in force has of a source
abbrev pub value_in : Option Row → Source → ℕ
value_in row source = option_map_or (λ r. shown_value r.levels r.drives source) row char_z

-- what the wave of rows shows of a source in cycle t; `z` where no variable shows it
abbrev pub written_value : List Variable → List Row → (Source → Bool) → Source → ℕ → ℕ
written_value variables rows test source t = if is_shown test variables then value_in (row_at rows t) source else char_z

-- what it says that a pin drives in cycle t
abbrev pub written_drive : List Variable → List Row → ℕ → ℕ → Drive
written_drive variables rows pin t =
    drive_of (written_value variables rows (is_strong pin) (Strong pin) t) (written_value variables rows (is_weak pin) (Weak pin) t)

-- A drive that two values can show: all but a wiper.
abbrev pub IsPlain : Drive → Type 0
IsPlain (drives.Wiper w) = ⊥
IsPlain drive = Unit {0}

-- A pin that the wave tells whole: two variables show what it drives.
pub record IsTold (variables : List Variable) (pin : ℕ) : Type 0 where
  pub strong : is_shown (is_strong pin) variables ≡ true
  pub weak : is_shown (is_weak pin) variables ≡ true
