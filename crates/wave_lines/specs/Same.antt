-- Drives and levels that are the same.
use Rattle.std.specs.Prelude.{◌==◌, Bool, true, false}
use Rattle.sim_base.specs.declared.signal.Drive.{Drive}
use Rattle.sim_base.specs.declared.signal.Drive.TheVariants as drives
use Rattle.sim_base.specs.declared.signal.Level.{Level}
use Rattle.sim_base.specs.declared.signal.Level.TheVariants as levels

abbrev pub same_drive : Drive → Drive → Bool
same_drive drives.Z drives.Z = true
same_drive drives.Low drives.Low = true
same_drive drives.High drives.High = true
same_drive drives.PullLow drives.PullLow = true
same_drive drives.PullHigh drives.PullHigh = true
same_drive (drives.Wiper v) (drives.Wiper w) = v == w
same_drive a b = false

abbrev pub same_level : Level → Level → Bool
same_level levels.Low levels.Low = true
same_level levels.High levels.High = true
same_level levels.X levels.X = true
same_level levels.Z levels.Z = true
same_level (levels.Wiped v) (levels.Wiped w) = v == w
same_level a b = false
