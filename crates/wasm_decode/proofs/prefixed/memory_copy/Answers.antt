use Rattle.std.proofs.lemmas.Result.{err_from_is_err_and}
use Rattle.wasm_decode.proofs.InstrLemmas.{memory_copy_stops_2, memory_copy_done}
use Rattle.wasm_decode.proofs.prefixed.memory_copy.Goals as goal

pub returns-in_err-tag-2 : goal.returns-in_err-tag-2
returns-in_err-tag-2 c =
    let p = err_from_is_err_and c.from_residual-in_err-tag-2.result c.from_residual-in_err-tag-2.ensures.1 in
    rw (p.1, p.2) (memory_copy_stops_2 _ _ _ _ c.in_ok-tag.ensures c.in_err-tag-2.ensures)

pub returns : goal.returns
returns c = memory_copy_done _ _ _ _ _ c.in_ok-tag.ensures c.in_ok-tag-2.ensures
