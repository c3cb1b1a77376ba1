use Rattle.std.proofs.Common.{◌≡◌, take}
use Rattle.sim_base.proofs.mem_bench.copy_line.Given as goal

abbrev pub invariant-loop-b : goal.invariant-loop-b
invariant-loop-b l = l.into.items ≡ take l.b-index l.line
