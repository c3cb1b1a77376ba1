use Rattle.std.proofs.Common.{refl}
use Rattle.std.proofs.lemmas.Result.{err_from_is_err_and}
use Rattle.wasm_code.proofs.TypeLemmas.{global_type_stops_2, global_type_done}
use Rattle.wasm_code.proofs.type_text.read_global_type.Goals as goal

pub returns-in_err-changeable : goal.returns-in_err-changeable
returns-in_err-changeable c =
    let p = err_from_is_err_and c.from_residual-in_err-changeable.result c.from_residual-in_err-changeable.ensures.1 in
    rw (p.1, p.2) (global_type_stops_2 _ _ _ _ c.in_ok-value.ensures c.in_err-changeable.ensures)

pub returns : goal.returns
returns c = global_type_done _ _ _ _ _ _ refl c.in_ok-value.ensures c.in_ok-changeable.ensures
