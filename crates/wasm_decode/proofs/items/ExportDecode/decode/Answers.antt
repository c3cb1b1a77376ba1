use Rattle.std.proofs.Common.{refl}
use Rattle.std.proofs.lemmas.Result.{err_from_is_err_and}
use Rattle.wasm_decode.proofs.ItemLemmas.{export_stops_2, export_stops_3, export_done}
use Rattle.wasm_decode.proofs.items.ExportDecode.decode.Goals as goal

pub returns-in_err-kind : goal.returns-in_err-kind
returns-in_err-kind c =
    let p = err_from_is_err_and c.from_residual-in_err-kind.result c.from_residual-in_err-kind.ensures.1 in
    rw (p.1, p.2) (export_stops_2 _ _ _ _ c.in_ok-name.ensures c.in_err-kind.ensures)

pub returns-in_err-index : goal.returns-in_err-index
returns-in_err-index c =
    let p = err_from_is_err_and c.from_residual-in_err-index.result c.from_residual-in_err-index.ensures.1 in
    rw (p.1, p.2) (export_stops_3 _ _ _ _ _ _ c.in_ok-name.ensures c.in_ok-kind.ensures c.in_err-index.ensures)

pub returns : goal.returns
returns c = export_done _ _ _ _ _ _ _ _ refl c.in_ok-name.ensures c.in_ok-kind.ensures c.in_ok-index.ensures
