use Rattle.std.proofs.Common.{◌+◌, ap, ◌∙◌, drop, List, ℕ}
use Rattle.std.proofs.lemmas.Result.{err_from_is_err_and}
use Rattle.document_model.specs.Reading.{each_from}
use Rattle.board_build.specs.Ids.{ids_in}
use Rattle.board_build.specs.Pins.{wire_on_board}
use Rattle.board_build.proofs.EachLemmas.{with_front, each_more, each_refused, each_done}
use Rattle.board_build.proofs.pins.wires_on_board.Goals as goal

pub returns-in_err-wire_on_board : goal.returns-in_err-wire_on_board
returns-in_err-wire_on_board c =
    let l = c.loop-wire in
    let b = c.args.board.now in
    let q = err_from_is_err_and c.from_residual.result c.from_residual.ensures.1 in
    rw (q.1, q.2) (each_refused (λ (pairs : List (ℕ × ℕ)). pairs) l.pairs (λ k. wire_on_board b.pins.now b.kinds.now (ids_in b.ids.now)) l.wire-index c.args.wires.now c.wire-item.result c.in_err-wire_on_board.field-0.0 _
    c.loop-wire-test.true c.wire-item.is c.in_err-wire_on_board.ensures l.invariant)

pub loop-wire-preserved : goal.loop-wire-preserved
loop-wire-preserved c =
    let l = c.loop-wire in
    let b = c.args.board.now in
    let f = λ (k : ℕ). wire_on_board b.pins.now b.kinds.now (ids_in b.ids.now) in
    ap (λ (pairs : List (ℕ × ℕ)). with_front pairs (each_from f (l.wire-index + 1 + 1) (drop (l.wire-index + 1) c.args.wires.now))) c.in_ok-push.ensures.ok
    ∙ each_more l.pairs f l.wire-index c.args.wires.now c.wire-item.result c.in_ok-wire_on_board.field-0 _ c.loop-wire-test.true c.wire-item.is c.in_ok-wire_on_board.ensures l.invariant

pub returns : goal.returns
returns c =
    let b = c.args.board.now in
    each_done c.loop-wire.pairs (λ k. wire_on_board b.pins.now b.kinds.now (ids_in b.ids.now)) c.loop-wire.wire-index c.args.wires.now _ c.loop-wire-test.false c.loop-wire.invariant
