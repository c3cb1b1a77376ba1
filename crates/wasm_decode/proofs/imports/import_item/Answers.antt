use Rattle.std.proofs.Common.{refl}
use Rattle.std.proofs.lemmas.Result.{err_from_is_err_and}
use Rattle.wasm_decode.proofs.ItemLemmas.{import_stops_2, import_stops_3, import_stops_4, import_done}
use Rattle.wasm_decode.proofs.imports.import_item.Goals as goal

pub returns-in_err-item : goal.returns-in_err-item
returns-in_err-item c =
    let p = err_from_is_err_and c.from_residual-in_err-item.result c.from_residual-in_err-item.ensures.1 in
    rw (p.1, p.2) (import_stops_2 c.args.functions _ _ _ _ c.in_ok-from.ensures c.in_err-item.ensures)

pub returns-in_err-kind : goal.returns-in_err-kind
returns-in_err-kind c =
    let p = err_from_is_err_and c.from_residual-in_err-kind.result c.from_residual-in_err-kind.ensures.1 in
    rw (p.1, p.2) (import_stops_3 c.args.functions _ _ _ _ _ _ c.in_ok-from.ensures c.in_ok-item.ensures c.in_err-kind.ensures)

pub returns-in_err-desc : goal.returns-in_err-desc
returns-in_err-desc c =
    let p = err_from_is_err_and c.from_residual-in_err-desc.result c.from_residual-in_err-desc.ensures.1 in
    rw (p.1, p.2) (import_stops_4 c.args.functions _ _ _ _ _ _ _ _ c.in_ok-from.ensures c.in_ok-item.ensures c.in_ok-kind.ensures c.in_err-desc.ensures)

pub returns : goal.returns
returns c = import_done c.args.functions _ _ _ _ _ _ _ _ _ _ refl c.in_ok-from.ensures c.in_ok-item.ensures c.in_ok-kind.ensures c.in_ok-desc.ensures
