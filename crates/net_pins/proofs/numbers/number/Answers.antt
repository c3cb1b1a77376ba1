use Rattle.std.proofs.Common.{◌<◌, ◌≡◌, length, arith, ap, ◌∙◌}
use Rattle.net_pins.specs.Labels.{owns}
use Rattle.net_pins.proofs.NumberLemmas.{numbered_begun, numbered_own, numbered_other, all_numbered}
use Rattle.net_pins.proofs.numbers.number.Goals as goal
use Rattle.net_pins.proofs.numbers.number.Goals.{then-label-pin, else-label-pin}

pub loop-pin-init : goal.loop-pin-init
loop-pin-init c = numbered_begun c.args.labels.now

pub loop-pin-preserved : goal.loop-pin-preserved
loop-pin-preserved c =
    let l = c.loop-pin in
    let inside : l.pin < length l.labels = omega arith in
    let same : length l.labels ≡ length c.args.labels.now = l.auto.labels in
    elim c.if-label-pin.branch [
      | then-label-pin w ↦ rw (w.labels-is, w.nets-is) (numbered_own c.args.labels.now l.labels l.pin l.nets l.invariant inside w.if-label-pin.true)
      | else-label-pin w ↦ rw (w.labels-is, w.nets-is) (numbered_other c.args.labels.now l.labels l.pin l.nets c.requires.least l.invariant inside same w.if-label-pin.false)
    ]

pub returns : goal.returns
returns c =
    let l = c.loop-pin in
    let end : l.pin ≡ length c.args.labels.now = omega arith in
    record {
      numbers = all_numbered c.args.labels.now l.labels l.pin l.auto.labels c.loop-pin-test.false l.invariant.filled;
      count = l.invariant.count ∙ ap (owns c.args.labels.now) end;
    }
