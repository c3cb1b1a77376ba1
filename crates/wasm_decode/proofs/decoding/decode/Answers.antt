use Rattle.std.proofs.Common.{refl}
use Rattle.std.proofs.lemmas.Result.{err_from_is_err_and}
use Rattle.wasm_decode.proofs.ModuleLemmas.{sections_fail, module_read}
use Rattle.wasm_decode.proofs.decoding.decode.Goals as goal

pub returns-in_err-progress : goal.returns-in_err-progress
returns-in_err-progress c =
    let p = err_from_is_err_and c.from_residual-in_err-progress.result c.from_residual-in_err-progress.ensures.1 in
    rw (p.1, p.2) (sections_fail _ c.magic.new.reader c.in_err-progress.field-0.0 refl c.in_ok-magic.ensures c.in_err-progress.ensures)

pub returns : goal.returns
returns c = module_read _ c.magic.new.reader c.in_ok-progress.progress c.in_ok-magic.ensures c.in_ok-progress.ensures
