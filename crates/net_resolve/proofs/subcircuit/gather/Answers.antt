use Rattle.net_resolve.proofs.Common.{arith, ◌∙◌, ap, sym, get_or, Some, slice_get-get_or, get_within, filled_more}
use Rattle.net_resolve.proofs.PlaceLemmas.{IsFrom, gathered}
use Rattle.net_resolve.proofs.subcircuit.gather.Goals as goal

pub returns : goal.returns
returns g c = gathered c.args.from.now c.loop-j.into c.args.places.now c.loop-j.j c.loop-j-test.false (omega (arith, c.loop-j.auto.into, c.requires.room)) c.loop-j.invariant

pub bounds-from-places : goal.bounds-from-places
bounds-from-places g c = c.requires.places c.loop-j.j _ (get_within c.args.places.now c.loop-j.j 0 c.loop-j-test.true)

pub loop-j-preserved : goal.loop-j-preserved
loop-j-preserved g c =
    let k = get_or c.args.places.now c.loop-j.j 0 in
    let at = get_within c.args.places.now c.loop-j.j 0 c.loop-j-test.true in
    let there = slice_get-get_or c.args.from.now k c.index-from-places.result (c.requires.places c.loop-j.j k at) in
    filled_more (IsFrom c.args.from.now) c.loop-j.j c.args.places.now c.loop-j.into k c.index-from-places.result c.loop-j.invariant
    (omega (arith, c.loop-j-test.true, c.loop-j.auto.into, c.requires.room)) at (there ∙ ap Some (sym c.index-from-places.is))
