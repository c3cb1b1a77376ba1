use Rattle.std.proofs.Common.{◌<◌, sym, length}
use Rattle.std.proofs.lemmas.Bool.{ltb-true}
use Rattle.board_build.proofs.PinLemmas.{starts_length, pin_found}
use Rattle.board_build.proofs.pins.pin_of_part.Goals as goal

pub bounds-board-part : goal.bounds-board-part
bounds-board-part c =
    let b = c.args.board.now in
    rw (b.places, starts_length b.pins.now 0 b.kinds.now) (ltb-true c.args.part (length b.kinds.now) (sym c.in_ok-kind.ensures.lookup.0))

pub returns : goal.returns
returns c =
    let b = c.args.board.now in
    let inside : c.args.part < length b.kinds.now = ltb-true c.args.part (length b.kinds.now) (sym c.in_ok-kind.ensures.lookup.0) in
    pin_found b.pins.now b.kinds.now c.args.pin.now c.args.part c.in_ok-kind.field-0.now c.in_ok-number.number c.from.result b.firsts.now b.places
    inside c.in_ok-kind.ensures.lookup.1 (sym c.in_ok-number.ensures) c.from.ensures
