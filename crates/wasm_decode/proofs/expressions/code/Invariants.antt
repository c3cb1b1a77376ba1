use Rattle.std.proofs.Common.{length}
use Rattle.wasm_decode.specs.ExprViews.{state_of}
use Rattle.wasm_decode.proofs.ExprLemmas.{ExprRun}
use Rattle.wasm_decode.proofs.expressions.code.Given as goal

abbrev pub invariant-loop-opened : goal.invariant-loop-opened
invariant-loop-opened l = ExprRun l.fn.reader l.reader l.code (state_of l.opened)

abbrev pub decreases-loop-opened : goal.decreases-loop-opened
decreases-loop-opened l = length l.reader.rest.now
