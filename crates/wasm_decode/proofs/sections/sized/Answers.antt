use Rattle.std.proofs.Common.{false}
use Rattle.std.proofs.lemmas.Result.{err_from_is_err_and}
use Rattle.wasm_binary.proofs.Parts.{sized_fails, sized_short, sized_reads, sized_inside}
use Rattle.wasm_decode.specs.SectionText.{content}
use Rattle.wasm_decode.proofs.sections.sized.Goals as goal

pub returns-in_err-section : goal.returns-in_err-section
returns-in_err-section c =
    let p = err_from_is_err_and c.from_residual-in_err-section.result c.from_residual-in_err-section.ensures.1 in
    rw (p.1, p.2) (sized_fails false (content c.args.known.now c.args.id) c.args.reader.now c.index.new.reader c.window-inner.result _ c.in_ok-size.ensures c.window-inner.ensures.rest c.window-inner.ensures.at _ c.in_err-section.ensures)

pub returns-in-Err : goal.returns-in-Err
returns-in-Err c =
    sized_short false (content c.args.known.now c.args.id) c.args.reader.now c.index.new.reader c.window-inner.result _ c.in_ok-size.ensures c.window-inner.ensures.rest c.window-inner.ensures.at _ _ _ c.in_ok-section.ensures c.in-Err.ensures.0 c.in-Err.ensures.1

pub close-requires : goal.close-requires
close-requires c =
    let w = sized_inside false (content c.args.known.now c.args.id) c.args.reader.now c.index.new.reader c.window-inner.result _ c.in_ok-size.ensures c.window-inner.ensures.rest c.window-inner.ensures.at _ _ c.in_ok-section.ensures in
    record { behind = w.0; inside = w.1 }

pub returns-in-Ok : goal.returns-in-Ok
returns-in-Ok c = sized_reads false (content c.args.known.now c.args.id) c.args.reader.now c.index.new.reader c.window-inner.result _ c.in_ok-size.ensures c.window-inner.ensures.rest c.window-inner.ensures.at _ _ _ c.in_ok-section.ensures c.in-Ok.ensures.0 c.in-Ok.ensures.1
