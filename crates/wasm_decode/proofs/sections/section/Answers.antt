use Rattle.std.proofs.Common.{sym, ◌∙◌}
use Rattle.std.proofs.lemmas.Result.{err_from_is_err_and}
use Rattle.wasm_decode.proofs.Judged.{section_ends, section_faulty, section_goes}
use Rattle.wasm_decode.proofs.sections.section.Goals as goal

pub returns-in_err-byte : goal.returns-in_err-byte
returns-in_err-byte c =
    let p = err_from_is_err_and c.from_residual.result c.from_residual.ensures.1 in
    rw (p.1, p.2) (section_ends c.args.progress.now c.args.reader.now _ c.in_err-byte.ensures)

pub returns-in-Ok : goal.returns-in-Ok
returns-in-Ok c = section_goes c.args.progress.now c.args.reader.now c.byte.new.self c.section_of.new.reader c.in_ok-byte.byte c.in-Ok.id c.section_of.result c.in_ok-byte.ensures (sym c.in-Ok.is ∙ c.judge.ensures) c.section_of.ensures

pub returns-in-Err : goal.returns-in-Err
returns-in-Err c = section_faulty c.args.progress.now c.args.reader.now c.byte.new.self c.in_ok-byte.byte c.in-Err.number c.refused.result c.in_ok-byte.ensures (sym c.in-Err.is ∙ c.judge.ensures) c.refused.ensures
