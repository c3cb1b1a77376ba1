use Rattle.wasm_decode.proofs.LoopLemmas.{BodyRun}
use Rattle.wasm_decode.proofs.bodies.body_items.Given as goal

abbrev pub invariant-loop-i : goal.invariant-loop-i
invariant-loop-i l = BodyRun l.types l.functions l.fn.reader l.reader l.bodies l.i
