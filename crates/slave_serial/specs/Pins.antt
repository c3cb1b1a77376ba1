-- What an engine's output drives.
use Rattle.std.specs.Prelude.{Bool, if◌then◌else◌}
use Rattle.sim_base.specs.declared.signal.Drive.{Drive}
use Rattle.sim_base.specs.declared.signal.Drive.TheVariants as drives

abbrev pub output : Bool → Drive
output high = if high then drives.High else drives.Low
