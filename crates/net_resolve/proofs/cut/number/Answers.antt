use Rattle.net_resolve.proofs.Common.{◌<◌, ◌∙◌, arith, length, get_or, slice_get_within, below, get_within, get-below}
use Rattle.net_resolve.proofs.PlaceLemmas.{put_more}
use Rattle.net_resolve.proofs.cut.number.Goals as goal

pub loop-i-preserved : goal.loop-i-preserved
loop-i-preserved c =
    let nets = c.args.nets.now in
    let i = c.loop-i.i in
    let at = get_within nets i 0 c.loop-i-test.true in
    put_more (below (length nets)) nets i c.args.numbers.now c.loop-i.numbers (get_or nets i 0) i c.requires.once c.loop-i.invariant at
    (omega (arith, c.requires.within i (get_or nets i 0) at, c.loop-i.auto.numbers)) (get-below (length nets) i c.loop-i-test.true)

pub returns : goal.returns
returns c = λ i n e.
    let l : i < length c.args.nets.now = slice_get_within c.args.nets.now i n e in
    c.loop-i.invariant.there i n (omega (arith, l, c.loop-i-test.false)) e ∙ get-below (length c.args.nets.now) i l
