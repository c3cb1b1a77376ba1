use Rattle.std.proofs.Common.{refl}
use Rattle.std.proofs.lemmas.Result.{err_from_is_err_and}
use Rattle.wasm_decode.proofs.ItemLemmas.{body_stops_2, body_stops_3, body_done}
use Rattle.wasm_decode.proofs.bodies.read_body.Goals as goal

pub returns-in_err-locals : goal.returns-in_err-locals
returns-in_err-locals c =
    let p = err_from_is_err_and c.from_residual-in_err-locals.result c.from_residual-in_err-locals.ensures.1 in
    rw (p.1, p.2) (body_stops_2 c.args.room _ _ _ _ c.in_ok-count.ensures c.in_err-locals.ensures)

pub returns-in_err-code : goal.returns-in_err-code
returns-in_err-code c =
    let p = err_from_is_err_and c.from_residual-in_err-code.result c.from_residual-in_err-code.ensures.1 in
    rw (p.1, p.2) (body_stops_3 c.args.room _ _ _ _ _ _ c.in_ok-count.ensures c.in_ok-locals.ensures c.in_err-code.ensures)

pub returns : goal.returns
returns c = body_done c.args.room _ _ _ _ _ _ _ _ refl c.in_ok-count.ensures c.in_ok-locals.ensures c.in_ok-code.ensures
