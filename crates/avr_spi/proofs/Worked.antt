-- What the law of a transfer asks for comes about: a small case, worked by the definition itself.
use Rattle.std.proofs.Common.{true, false, refl}
use Rattle.std.specs.Prelude.{◌&&◌, not}
use Rattle.avr_unit.specs.Bits.{is_set}
use Rattle.avr_unit_model.specs.Life.{state, stepping}
use Rattle.avr_unit_model.proofs.Cases.{polls, high, always}
use Rattle.avr_spi.specs.declared.registers.Register.TheVariants.{SPDR}
use Rattle.avr_spi.specs.Spi.{Spi, spi, is_master, ss_low, with_register}
use Rattle.avr_spi.specs.SpiTransfer.{IsUndisturbed}

-- a master with SPI2X, whose SS is an output
master : Spi
master = record (spi.reset) { spcr = 0x50; spsr = 1; ddrb = 0x2C }

written : Spi
written = with_register master 0 SPDR 0xA5

-- it polls SPSR
transfer : IsUndisturbed (polls 0x4D) high master written 0 0xA5
unfolding state polls high master written
transfer = record {
  idle = refl;
  nothing = refl;
  master = λ n le. always (λ n. is_master (stepping spi (polls 0x4D) high written 0 n).spcr) true 16 n refl le;
  unselected = λ n le. always (λ n. not (is_set (stepping spi (polls 0x4D) high written 0 n).ddrb 2) && ss_low (high n)) false 16 n refl le;
}
