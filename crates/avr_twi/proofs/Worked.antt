-- What the laws of a START and of a STOP ask for comes about: small cases, worked by the definition itself.
use Rattle.std.proofs.Common.{true, refl, arith}
use Rattle.avr_unit.specs.Bits.{is_set}
use Rattle.avr_unit_model.specs.Life.{state, stepping}
use Rattle.avr_unit_model.proofs.Cases.{polls, high, always}
use Rattle.avr_twi.specs.declared.registers.Register.TheVariants.{TWCR}
use Rattle.avr_twi.specs.Twi.{Twi, twi, with_register}
use Rattle.avr_twi.specs.TwiActions.{IsBegun, IsFree}

-- a START on a free bus, and a STOP, with 8 cycles for half a period; the processor polls TWCR
started : Twi
started = with_register twi.reset 0 TWCR 0xA4

start : IsBegun (polls 0xBC) high twi.reset started 0 0xA4 24
unfolding state polls high started
start = record {
  idle = refl;
  nothing = refl;
  twint = refl;
  twen = refl;
  enabled = λ n le. always (λ n. is_set (stepping twi (polls 0xBC) high started 0 n).master.twcr 2) true 24 n refl le;
}

bus : IsFree (polls 0xBC) high twi.reset started 0 0 8 0
unfolding high
bus = record { waits = λ j less. absurd (omega (arith, less)); free = refl }

stopped : Twi
stopped = with_register twi.reset 0 TWCR 0x94

stop : IsBegun (polls 0xBC) high twi.reset stopped 0 0x94 16
unfolding state polls high stopped
stop = record {
  idle = refl;
  nothing = refl;
  twint = refl;
  twen = refl;
  enabled = λ n le. always (λ n. is_set (stepping twi (polls 0xBC) high stopped 0 n).master.twcr 2) true 16 n refl le;
}
