use Rattle.std.proofs.lemmas.Result.{err_from_is_err_and}
use Rattle.std.proofs.Common.{refl}
use Rattle.wasm_decode.proofs.InstrLemmas.{number_stops_2, number_done}
use Rattle.wasm_decode.proofs.prefixed.prefix_number.Goals as goal

pub returns-in_err-zeros_behind : goal.returns-in_err-zeros_behind
returns-in_err-zeros_behind c =
    let p = err_from_is_err_and c.from_residual-in_err-zeros_behind.result c.from_residual-in_err-zeros_behind.ensures.1 in
    rw (p.1, p.2) (number_stops_2 _ _ _ _ c.in_ok-byte.ensures c.in_err-zeros_behind.ensures)

pub returns : goal.returns
returns c = number_done _ _ _ _ _ _ refl c.in_ok-byte.ensures c.in_ok-zeros_behind.ensures
