use Rattle.std.proofs.Common.{arith}
use Rattle.std.proofs.lemmas.Result.{err_from_is_err_and}
use Rattle.wasm_decode.proofs.LoopLemmas.{locals_begin, locals_go, locals_fail, locals_end}
use Rattle.wasm_decode.proofs.bodies.local_runs.Goals as goal

pub loop-i-init : goal.loop-i-init
loop-i-init c = locals_begin _ _ _ _ _ c.new-runs.ensures (omega arith)

pub returns-in_err-run : goal.returns-in_err-run
returns-in_err-run c =
    let p = err_from_is_err_and c.from_residual.result c.from_residual.ensures.1 in
    rw (p.1, p.2) (locals_fail _ _ _ _ _ _ _ _ c.loop-i.invariant (omega arith) c.in_err-run.ensures)

pub loop-i-preserved : goal.loop-i-preserved
loop-i-preserved c = locals_go _ _ _ _ _ _ _ _ _ _ _ c.in_ok-run.run' c.loop-i.invariant (omega arith) c.in_ok-run.ensures (omega arith) (omega arith) c.in_ok-push.ensures.ok

pub returns : goal.returns
returns c = locals_end _ _ _ _ _ _ _ c.loop-i.invariant (omega arith)
