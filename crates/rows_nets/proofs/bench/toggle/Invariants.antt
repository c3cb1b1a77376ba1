use Rattle.std.proofs.Common.{◌≡◌}
use Rattle.rows_nets.proofs.bench.toggle.Given as goal

abbrev pub invariant-loop-i : goal.invariant-loop-i
invariant-loop-i l = l.nets.wiring ≡ l.fn.nets.wiring
