-- What pins put on nets, and what inputs read of them (profile: a clocked board without currents).
use Rattle.std.specs.Prelude.{ℕ, Bool, true, false, nat_le, Option, None, Some}
use Rattle.sim_base.specs.declared.signal.Drive.{Drive}
use Rattle.sim_base.specs.declared.signal.Drive.TheVariants as drives
use Rattle.sim_base.specs.declared.signal.Level.{Level}
use Rattle.sim_base.specs.declared.signal.Level.TheVariants as levels

-- whether a wiper's position, 0 to 1023, counts as High: its upper half does
abbrev pub is_upper : ℕ → Bool
is_upper w = nat_le 512 w

-- The value of a drive: true for High, false for Low; Z has none.
abbrev pub value_of : Drive → Option Bool
value_of drives.Z = None
value_of drives.Low = Some false
value_of drives.High = Some true
value_of drives.PullLow = Some false
value_of drives.PullHigh = Some true
value_of (drives.Wiper w) = Some (is_upper w)

-- The value of a strong drive; a weak drive and Z have none.
abbrev pub strong_of : Drive → Option Bool
strong_of drives.Low = Some false
strong_of drives.High = Some true
strong_of drives.Z = None
strong_of drives.PullLow = None
strong_of drives.PullHigh = None
strong_of (drives.Wiper w) = None

-- whether a drive is weak: a pull or a wiper
abbrev pub is_weak : Drive → Bool
is_weak drives.PullLow = true
is_weak drives.PullHigh = true
is_weak (drives.Wiper w) = true
is_weak drives.Z = false
is_weak drives.Low = false
is_weak drives.High = false

-- What an input reads on a level: 1 on High and on a wiper's upper half, else 0.
abbrev pub reads : Level → Bool
reads levels.High = true
reads (levels.Wiped w) = is_upper w
reads levels.Low = false
reads levels.X = false
reads levels.Z = false
