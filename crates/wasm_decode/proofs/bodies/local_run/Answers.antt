use Rattle.std.proofs.Common.{refl}
use Rattle.std.proofs.lemmas.Result.{err_from_is_err_and}
use Rattle.wasm_decode.proofs.ItemLemmas.{local_run_stops_2, local_run_done}
use Rattle.wasm_decode.proofs.bodies.local_run.Goals as goal

pub returns-in_err-value : goal.returns-in_err-value
returns-in_err-value c =
    let p = err_from_is_err_and c.from_residual-in_err-value.result c.from_residual-in_err-value.ensures.1 in
    rw (p.1, p.2) (local_run_stops_2 c.args.room _ _ _ _ c.in_ok-count.ensures c.in_err-value.ensures)

pub returns : goal.returns
returns c = local_run_done c.args.room _ _ _ _ _ _ refl c.in_ok-count.ensures c.in_ok-value.ensures
