use Rattle.std.proofs.Common.{◌+◌, length, ltb, arith, refl}
use Rattle.std.specs.Prelude.{slice_index}
use Rattle.std.proofs.lemmas.Result.{err_from_is_err_and}
use Rattle.wasm_decode.proofs.LoopLemmas.{bodies_begin, bodies_go, bodies_fail, bodies_end, more_behind}
use Rattle.wasm_decode.proofs.bodies.body_items.Goals as goal

pub loop-i-init : goal.loop-i-init
loop-i-init c = bodies_begin _ _ _ _ c.new-bodies.ensures

pub returns-in_err-body : goal.returns-in_err-body
returns-in_err-body c =
    let p = err_from_is_err_and c.from_residual.result c.from_residual.ensures.1 in
    let types = c.args.types.now in
    let fs = c.args.functions.now in
    rw (p.1, p.2) (bodies_fail types fs _ _ _ c.loop-i.i (slice_index fs c.loop-i.i) c.room_for-room.result (ltb (c.loop-i.i + 1) (length fs)) _ c.loop-i.invariant c.loop-i-test.true refl c.room_for-room.ensures (more_behind types fs (c.loop-i.i + 1)) c.in_err-body.ensures)

pub loop-i-preserved : goal.loop-i-preserved
loop-i-preserved c =
    let types = c.args.types.now in
    let fs = c.args.functions.now in
    bodies_go types fs _ _ _ _ _ c.loop-i.i (slice_index fs c.loop-i.i) c.room_for-room.result (ltb (c.loop-i.i + 1) (length fs)) c.in_ok-body.body c.loop-i.invariant c.loop-i-test.true refl c.room_for-room.ensures (more_behind types fs (c.loop-i.i + 1)) c.in_ok-body.ensures c.in_ok-push.ensures.ok

pub returns : goal.returns
returns c = bodies_end _ _ _ _ _ _ c.loop-i.invariant (omega arith)
