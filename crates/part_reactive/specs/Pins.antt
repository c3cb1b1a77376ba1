-- What kinds say of the levels on their pins, of what outputs drive, and of the bits of what they keep (profile).
use Rattle.std.specs.Prelude.{ℕ, ◌/◌, ◌%◌, ◌^◌, ◌==◌, List, Bool, true, false, not, ◌&&◌, if◌then◌else◌, slice_get, unwrap_or}
use Rattle.sim_base.specs.declared.signal.Drive.{Drive}
use Rattle.sim_base.specs.declared.signal.Drive.TheVariants as drives
use Rattle.sim_base.specs.declared.signal.Level.{Level}
use Rattle.sim_base.specs.declared.signal.Level.TheVariants as levels
use Rattle.sim_base.specs.Signal.{reads}

-- the level at a pin, Z where there is none
abbrev pub at_pin : List Level → ℕ → Level
at_pin ls pin = unwrap_or (slice_get ls pin) levels.Z

abbrev pub is_low : Level → Bool
is_low levels.Low = true
is_low level = false

-- whether a pin reads 1 on these levels
abbrev pub reads_at : List Level → ℕ → Bool
reads_at ls pin = reads (at_pin ls pin)

-- a rising edge: the pin reads 1, and read 0 in the step before
abbrev pub rises : List Level → List Level → ℕ → Bool
rises before now pin = reads_at now pin && not (reads_at before pin)

-- a falling edge: the pin reads 0, and read 1 in the step before
abbrev pub falls : List Level → List Level → ℕ → Bool
falls before now pin = reads_at before pin && not (reads_at now pin)

-- what an output drives
abbrev pub output : Bool → Drive
output high = if high then drives.High else drives.Low

-- 1 or 0
abbrev pub digit : Bool → ℕ
digit one = if one then 1 else 0

-- bit k of a number
abbrev pub bit : ℕ → ℕ → Bool
bit k n = n / 2 ^ k % 2 == 1
