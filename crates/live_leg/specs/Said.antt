-- What was said on Serial.
use Rattle.std.specs.Prelude.{List, ℕ}
use Rattle.sim_base.specs.declared.bench.Port.TheVariants as ports
use Rattle.sim_base.specs.Outside.{Outside, Grows}

-- From a to b this was said on Serial, and nothing else.
abbrev pub HasSaid : Outside → Outside → List ℕ → Type 0
HasSaid a b text = Grows (a.written ports.Serial) (b.written ports.Serial) text
