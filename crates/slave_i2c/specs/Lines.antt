-- What two lines say in two cycles (UM10204, "START and STOP conditions", "Data validity").
use Rattle.std.specs.Prelude.{◌&&◌, not, Bool}
use Rattle.slave_i2c.specs.declared.lines.Lines.{Lines}

-- START: SDA falls while SCL is High.
abbrev pub is_start : Lines → Lines → Bool
is_start before now = before.scl && (now.scl && (before.sda && not now.sda))

-- STOP: SDA rises while SCL is High.
abbrev pub is_stop : Lines → Lines → Bool
is_stop before now = before.scl && (now.scl && (not before.sda && now.sda))

-- a rise and a fall of SCL
abbrev pub rises : Lines → Lines → Bool
rises before now = now.scl && not before.scl

abbrev pub falls : Lines → Lines → Bool
falls before now = before.scl && not now.scl
