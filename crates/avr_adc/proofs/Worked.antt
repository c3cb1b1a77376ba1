-- What the law of a conversion asks for comes about: a small case, worked by the definition itself.
use Rattle.std.proofs.Common.{true, false, refl}
use Rattle.avr_unit_model.specs.Life.{state, stepping}
use Rattle.avr_unit_model.proofs.Cases.{polls, high, always}
use Rattle.avr_adc.specs.declared.registers.Register.TheVariants.{ADCSRA}
use Rattle.avr_adc.specs.Adc.{Adc, adc, with_register}
use Rattle.avr_adc.specs.AdcConversion.{IsStarted}

-- a conversion that is not the first, by half of the processor's clock
ready : Adc
ready = record (adc.reset) { aden = true; first = false }

written : Adc
written = with_register ready 0 ADCSRA 0xC0

-- the processor polls ADCSRA
conversion : IsStarted (polls 0x7A) high ready written 0 0xC0 26
unfolding state polls high ready written
conversion = record {
  idle = refl;
  aden = refl;
  adsc = refl;
  nothing = refl;
  enabled = λ n le. always (λ n. (stepping adc (polls 0x7A) high written 0 n).aden) true 26 n refl le;
}
