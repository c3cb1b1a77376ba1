-- Which pins the ADC asks for something.
use Rattle.std.proofs.Common.{refl}
use Rattle.part_law.specs.Spans.{no_pins}
use Rattle.avr_unit.specs.Placed.{Placed}
use Rattle.avr_adc.specs.Adc.{adc}

pub adc_placed : Placed adc no_pins
adc_placed u p less out = refl
