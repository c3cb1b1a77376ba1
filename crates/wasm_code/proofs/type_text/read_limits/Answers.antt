use Rattle.std.proofs.lemmas.Result.{err_from_is_err_and}
use Rattle.wasm_code.proofs.LimitsLemmas.{limits_fail, unlimited, limited_fails, limited}
use Rattle.wasm_code.proofs.type_text.read_limits.Goals as goal

pub returns-in_err-least : goal.returns-in_err-least
returns-in_err-least c =
    let p = err_from_is_err_and c.from_residual-in_err-least.result c.from_residual-in_err-least.ensures.1 in
    rw (p.1, p.2) (limits_fail _ _ _ _ c.in_ok-bounded.ensures c.in_err-least.ensures)

pub returns-then-not-bounded : goal.returns-then-not-bounded
returns-then-not-bounded c = unlimited _ _ _ _ _ c.in_ok-bounded.ensures c.if-not-bounded.true c.in_ok-least.ensures

pub returns-in_err-greatest : goal.returns-in_err-greatest
returns-in_err-greatest c =
    let p = err_from_is_err_and c.from_residual-in_err-greatest.result c.from_residual-in_err-greatest.ensures.1 in
    rw (p.1, p.2) (limited_fails _ _ _ _ _ _ c.in_ok-bounded.ensures c.if-not-bounded.false c.in_ok-least.ensures c.in_err-greatest.ensures)

pub returns : goal.returns
returns c = limited _ _ _ _ _ _ _ c.in_ok-bounded.ensures c.if-not-bounded.false c.in_ok-least.ensures c.in_ok-greatest.ensures
