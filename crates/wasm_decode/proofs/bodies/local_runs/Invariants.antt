use Rattle.std.proofs.Common.{◌-◌}
use Rattle.wasm_decode.proofs.LoopLemmas.{LocalRuns}
use Rattle.wasm_decode.proofs.bodies.local_runs.Given as goal

abbrev pub invariant-loop-i : goal.invariant-loop-i
invariant-loop-i l = LocalRuns l.fn.reader l.reader l.fn.room l.fn.count l.runs (l.fn.count - l.i) l.left
