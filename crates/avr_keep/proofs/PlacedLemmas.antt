-- Which pins the watchdog and the EEPROM ask for something.
use Rattle.std.proofs.Common.{refl}
use Rattle.part_law.specs.Spans.{no_pins}
use Rattle.avr_unit.specs.Placed.{Placed}
use Rattle.avr_keep.specs.Keep.{keep}

pub keep_placed : Placed keep no_pins
keep_placed u p less out = refl
