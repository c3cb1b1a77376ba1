-- What a signal leaves of units.
use Rattle.std.specs.Prelude.{ℕ}
use Rattle.avr_unit.specs.UnitMachine.{UnitMachine}
use Rattle.avr_unit.specs.declared.signal.Signal.{Signal}
use Rattle.avr_unit.specs.declared.signal.Signal.TheVariants.{Wdr, Doze, Restart}

abbrev pub signalled : {U : Type 0} → UnitMachine U → Signal → U → ℕ → U
signalled m Wdr s t = m.power.wdr s t
signalled m Doze s t = m.power.doze s
signalled m Restart s t = m.power.restart s
