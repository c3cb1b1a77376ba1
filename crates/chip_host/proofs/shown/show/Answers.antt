use Rattle.std.proofs.Common.{arith}
use Rattle.chip_host.proofs.ShownLemmas.{kept_first, kept_more, below_both}
use Rattle.chip_host.proofs.shown.show.Goals as goal

pub loop-pin-init : goal.loop-pin-init
loop-pin-init c = kept_first c.args.turns.now.chip c.args.shown.now.items c.none-moved.result c.args.span c.from-pin.result c.requires.others c.from-pin.ensures

pub loop-pin-preserved : goal.loop-pin-preserved
loop-pin-preserved c =
    let w = c.show_pin-moved.ensures in
    let below = below_both c.loop-pin.pin c.min-end.result c.len.result c.from.result c.loop-pin-test.true c.min-end.ensures in
    kept_more c.args.turns.now.chip c.args.shown.now.items c.loop-pin.shown.items c.show_pin-moved.new.shown.items c.loop-pin.moved c.show_pin-moved.result c.loop-pin.pin c.args.span.to c.pin_drive-drive.result
    c.loop-pin.invariant (omega (arith, below, c.len.ensures, c.loop-pin.invariant.room)) c.pin_drive-drive.ensures w.shown w.moved
