use Rattle.net_pins.proofs.NumberLemmas.{Numbered}
use Rattle.net_pins.proofs.numbers.number.Given as goal

abbrev pub invariant-loop-pin : goal.invariant-loop-pin
invariant-loop-pin l = Numbered l.fn.labels l.labels l.pin l.nets
