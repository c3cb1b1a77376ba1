use Rattle.std.proofs.Common.{refl}
use Rattle.std.proofs.lemmas.Result.{err_from_is_err_and}
use Rattle.wasm_decode.proofs.ItemLemmas.{segment_stops_2, segment_stops_3, segment_done}
use Rattle.wasm_decode.proofs.items.DataSegmentDecode.decode.Goals as goal

pub returns-in_err-offset : goal.returns-in_err-offset
returns-in_err-offset c =
    let p = err_from_is_err_and c.from_residual-in_err-offset.result c.from_residual-in_err-offset.ensures.1 in
    rw (p.1, p.2) (segment_stops_2 _ _ _ _ c.in_ok-tag.ensures c.in_err-offset.ensures)

pub returns-in-Err : goal.returns-in-Err
returns-in-Err c = segment_stops_3 _ _ _ _ _ _ c.in_ok-tag.ensures c.in_ok-offset.ensures c.in-Err.ensures

pub returns-in-Ok : goal.returns-in-Ok
returns-in-Ok c = segment_done _ _ _ _ _ _ _ _ refl c.in_ok-tag.ensures c.in_ok-offset.ensures c.in-Ok.ensures
