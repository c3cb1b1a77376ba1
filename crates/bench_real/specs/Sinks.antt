-- Where an opened port of the real system leads.
use Rattle.std.specs.Prelude.{Bool, true, false}
use Rattle.bench_real.specs.declared.real_bench.Sink.{Sink}
use Rattle.bench_real.specs.declared.real_bench.Sink.TheVariants as sinks

abbrev pub is_open : {F : Type 0} → Sink F → Bool
is_open sinks.Closed = false
is_open sinks.Standard = true
is_open (sinks.Opened file) = true
