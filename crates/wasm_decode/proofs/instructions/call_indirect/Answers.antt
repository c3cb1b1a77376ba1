use Rattle.std.proofs.Common.{refl}
use Rattle.std.proofs.lemmas.Result.{err_from_is_err_and}
use Rattle.wasm_decode.proofs.InstrLemmas.{call_indirect_stops_2, call_indirect_done}
use Rattle.wasm_decode.proofs.instructions.call_indirect.Goals as goal

pub returns-in_err-zero : goal.returns-in_err-zero
returns-in_err-zero c =
    let p = err_from_is_err_and c.from_residual-in_err-zero.result c.from_residual-in_err-zero.ensures.1 in
    rw (p.1, p.2) (call_indirect_stops_2 _ _ _ _ c.in_ok-kind.ensures c.in_err-zero.ensures)

pub returns : goal.returns
returns c = call_indirect_done _ _ _ _ _ _ refl c.in_ok-kind.ensures c.in_ok-zero.ensures
