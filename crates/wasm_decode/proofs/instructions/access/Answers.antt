use Rattle.std.proofs.lemmas.Result.{err_from_is_err_and}
use Rattle.wasm_decode.proofs.InstrLemmas.{access_stops_2, access_done}
use Rattle.wasm_decode.proofs.instructions.access.Goals as goal

pub returns-in_err-offset : goal.returns-in_err-offset
returns-in_err-offset c =
    let p = err_from_is_err_and c.from_residual-in_err-offset.result c.from_residual-in_err-offset.ensures.1 in
    rw (p.1, p.2) (access_stops_2 c.args.op _ _ _ _ c.in_ok-align.ensures c.in_err-offset.ensures)

pub returns : goal.returns
returns c = access_done c.args.op _ _ _ _ _ _ c.access_instr.ensures c.in_ok-align.ensures c.in_ok-offset.ensures
