-- The units of the microcontroller: one more is one more `beside`.
use Rattle.std.specs.Prelude.{ℕ, List}
use Rattle.avr_unit.specs.Reach.{Touch, Touches}
use Rattle.avr_unit.specs.UnitMachine.{UnitMachine, Laws}
use Rattle.avr_ports.specs.PortLaws.{ports_laws}
use Rattle.avr_ports.specs.PortReach.{ports_reaches}
use Rattle.avr_keep.specs.KeepLaws.{keep_laws, keep_reaches}
use Rattle.avr_timer8.specs.declared.registers.Which.TheVariants.{Zero, Two}
use Rattle.avr_timer8.specs.Timer8Laws.{timer8_laws}
use Rattle.avr_timer8.specs.Timer8Reach.{timer8_reaches}
use Rattle.avr_timer16.specs.Timer16Laws.{timer16_laws}
use Rattle.avr_timer16.specs.Timer16Reach.{timer16_reaches}
use Rattle.avr_adc.specs.AdcLaws.{adc_laws, adc_reaches}
use Rattle.avr_usart.specs.UsartLaws.{usart_laws}
use Rattle.avr_usart.specs.UsartReach.{usart_reaches}
use Rattle.avr_spi.specs.SpiLaws.{spi_laws}
use Rattle.avr_spi.specs.SpiReach.{spi_reaches}
use Rattle.avr_twi.specs.TwiLaws.{twi_laws}
use Rattle.avr_twi.specs.TwiReach.{twi_reaches}
use Rattle.avr_mcu.specs.Member.{Member, member, beside, over}

abbrev awake : Member
awake = beside (member ports_laws ports_reaches) (member keep_laws keep_reaches)

abbrev clocked : Member
clocked =
    beside (member spi_laws spi_reaches)
    (beside (member (timer8_laws Zero) (timer8_reaches Zero))
    (beside (member timer16_laws timer16_reaches)
    (beside (member (timer8_laws Two) (timer8_reaches Two))
    (beside (member adc_laws adc_reaches)
    (beside (member usart_laws usart_reaches)
    (member twi_laws twi_reaches))))))

-- The ports and the watchdog with the EEPROM go on in power-down.
abbrev units : Member
units = over awake clocked

abbrev pub Devices : Type 0
Devices = units.State

abbrev pub devices : UnitMachine Devices
devices = units.machine

-- the bytes of the EEPROM
abbrev pub eeprom_cells : Devices → List ℕ
eeprom_cells d = d.0.1.eeprom.cells

pub devices_laws : Laws devices
devices_laws = units.laws

-- the pins that writes touch
abbrev pub devices_touch : Touch Devices
devices_touch = units.touch

pub devices_touches : Touches devices devices_touch
devices_touches = units.touches
