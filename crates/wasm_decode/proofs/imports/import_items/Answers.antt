use Rattle.std.proofs.Common.{arith}
use Rattle.std.proofs.lemmas.Result.{err_from_is_err_and}
use Rattle.wasm_decode.proofs.LoopLemmas.{imports_begin, imports_go, imports_fail, imports_end}
use Rattle.wasm_decode.proofs.imports.import_items.Goals as goal

pub loop-i-init : goal.loop-i-init
loop-i-init c = record { run = imports_begin _ _ _ _ c.new-imports.ensures (omega arith); within = omega arith }

pub returns-in_err-import : goal.returns-in_err-import
returns-in_err-import c =
    let p = err_from_is_err_and c.from_residual.result c.from_residual.ensures.1 in
    rw (p.1, p.2) (imports_fail _ _ _ _ _ _ _ c.loop-i.invariant.run (omega arith) c.in_err-import.ensures)

pub loop-i-preserved : goal.loop-i-preserved
loop-i-preserved c = record {
  run = imports_go _ _ _ _ _ _ _ _ _ _ c.in_ok-import.import c.loop-i.invariant.run (omega arith) c.in_ok-import.ensures (omega arith) (omega (arith, c.function_count-functions.ensures.is)) c.in_ok-push.ensures.ok;
  within = omega (arith, c.loop-i.invariant.within, c.function_count-functions.ensures.one);
}

pub returns : goal.returns
returns c = imports_end _ _ _ _ _ _ c.loop-i.invariant.run (omega arith)
