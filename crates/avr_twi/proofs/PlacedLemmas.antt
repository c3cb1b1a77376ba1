-- Which pins the TWI asks for something.
use Rattle.avr_unit.specs.Placed.{SameBut, placed_same}
use Rattle.avr_twi.specs.TwiReach.{twi_placed}
use Rattle.avr_twi.specs.Twi.{Twi, twi}

-- so what changes it changes nothing of others
pub twi_same : (new old : Twi) → SameBut twi (record { from = 18; to = 20 }) new old
twi_same = placed_same twi (record { from = 18; to = 20 }) twi_placed
