-- Lines that stay leave a slave as it is, and it asks for nothing.
use Rattle.std.proofs.Common.{◌≡◌, [], Bool, true, false, refl}
use Rattle.slave_i2c.specs.declared.lines.Lines.{Lines}
use Rattle.slave_i2c.specs.declared.slave.Slave.{Slave}
use Rattle.slave_i2c.specs.I2c.{i2c_step}

by : (s : Slave) (scl sda : Bool) → i2c_step s (record { scl = scl; sda = sda }) (record { scl = scl; sda = sda }) ≡ (s, [])
by s true true = refl
by s true false = refl
by s false sda = refl

pub rests : (s : Slave) (l : Lines) → i2c_step s l l ≡ (s, [])
rests s l = by s l.scl l.sda
