use Rattle.std.proofs.Common.{refl}
use Rattle.std.proofs.lemmas.Result.{err_from_is_err_and}
use Rattle.wasm_code.proofs.TypeLemmas.{func_type_stops_2, func_type_stops_3, func_type_done}
use Rattle.wasm_code.proofs.type_text.FuncTypeDecode.decode.Goals as goal

pub returns-in_err-params : goal.returns-in_err-params
returns-in_err-params c =
    let p = err_from_is_err_and c.from_residual-in_err-params.result c.from_residual-in_err-params.ensures.1 in
    rw (p.1, p.2) (func_type_stops_2 _ _ _ _ c.in_ok-tag.ensures c.in_err-params.ensures)

pub returns-in_err-results : goal.returns-in_err-results
returns-in_err-results c =
    let p = err_from_is_err_and c.from_residual-in_err-results.result c.from_residual-in_err-results.ensures.1 in
    rw (p.1, p.2) (func_type_stops_3 _ _ _ _ _ _ c.in_ok-tag.ensures c.in_ok-params.ensures c.in_err-results.ensures)

pub returns : goal.returns
returns c = func_type_done _ _ _ _ _ _ _ _ refl c.in_ok-tag.ensures c.in_ok-params.ensures c.in_ok-results.ensures
