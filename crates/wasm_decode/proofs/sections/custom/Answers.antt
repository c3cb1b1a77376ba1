use Rattle.std.proofs.Common.{arith}
use Rattle.std.proofs.lemmas.Result.{err_from_is_err_and}
use Rattle.wasm_decode.proofs.PartLemmas.{custom_name_fails, custom_cut, custom_reads}
use Rattle.wasm_decode.proofs.sections.custom.Goals as goal

pub returns-in_err-_name : goal.returns-in_err-_name
returns-in_err-_name c =
    let p = err_from_is_err_and c.from_residual-in_err-_name.result c.from_residual-in_err-_name.ensures.1 in
    rw (p.1, p.2) (custom_name_fails c.args.reader.now c.index.new.reader c.window-inner.result _ c.in_ok-size.ensures c.window-inner.ensures.rest c.window-inner.ensures.at _ c.in_err-_name.ensures)

pub returns-then-reader-size : goal.returns-then-reader-size
returns-then-reader-size c = custom_cut c.args.reader.now c.index.new.reader c.window-inner.result _ c.in_ok-size.ensures c.window-inner.ensures.rest c.window-inner.ensures.at _ _ _ c.in_ok-_name.ensures (omega arith) c.refused.ensures

pub returns : goal.returns
returns c = custom_reads c.args.reader.now c.index.new.reader c.window-inner.result _ c.in_ok-size.ensures c.window-inner.ensures.rest c.window-inner.ensures.at _ _ _ c.in_ok-_name.ensures (omega arith) c.skip.ensures
