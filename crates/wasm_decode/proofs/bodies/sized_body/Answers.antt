use Rattle.std.proofs.lemmas.Result.{err_from_is_err_and}
use Rattle.wasm_binary.proofs.Parts.{sized_fails, sized_short, sized_reads, sized_inside}
use Rattle.wasm_decode.specs.ItemText.{body}
use Rattle.wasm_decode.proofs.bodies.sized_body.Goals as goal

pub returns-in_err-body : goal.returns-in_err-body
returns-in_err-body c =
    let p = err_from_is_err_and c.from_residual-in_err-body.result c.from_residual-in_err-body.ensures.1 in
    rw (p.1, p.2) (sized_fails c.args.wanted (body c.args.room) c.args.reader.now c.index.new.reader c.window-inner.result _ c.in_ok-size.ensures c.window-inner.ensures.rest c.window-inner.ensures.at _ c.in_err-body.ensures)

pub returns-in_err-close : goal.returns-in_err-close
returns-in_err-close c =
    let p = err_from_is_err_and c.from_residual-in_err-close.result c.from_residual-in_err-close.ensures.1 in
    rw (p.1, p.2) (sized_short c.args.wanted (body c.args.room) c.args.reader.now c.index.new.reader c.window-inner.result _ c.in_ok-size.ensures c.window-inner.ensures.rest c.window-inner.ensures.at _ _ _ c.in_ok-body.ensures c.in_err-close.ensures.0 c.in_err-close.ensures.1)

pub close-requires : goal.close-requires
close-requires c =
    let w = sized_inside c.args.wanted (body c.args.room) c.args.reader.now c.index.new.reader c.window-inner.result _ c.in_ok-size.ensures c.window-inner.ensures.rest c.window-inner.ensures.at _ _ c.in_ok-body.ensures in
    record { behind = w.0; inside = w.1 }

pub returns : goal.returns
returns c = sized_reads c.args.wanted (body c.args.room) c.args.reader.now c.index.new.reader c.window-inner.result _ c.in_ok-size.ensures c.window-inner.ensures.rest c.window-inner.ensures.at _ _ _ c.in_ok-body.ensures c.in_ok-close.ensures.0 c.in_ok-close.ensures.1
