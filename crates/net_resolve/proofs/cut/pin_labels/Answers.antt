use Rattle.net_resolve.proofs.Common.{ℕ, slice_index, get_within}
use Rattle.net_resolve.proofs.CutLemmas.{map_next, map_all}
use Rattle.net_resolve.proofs.cut.pin_labels.Goals as goal

pub loop-k-preserved : goal.loop-k-preserved
loop-k-preserved c =
    let f : ℕ → ℕ = slice_index c.args.labels.now in
    map_next f c.args.net_of.now c.loop-k.k 0 c.loop-k.keys.items c.push.new.self.items c.loop-k-test.true c.loop-k.invariant c.in_ok-push.ensures.items

pub returns : goal.returns
returns c =
    map_all (slice_index c.args.labels.now) c.args.net_of.now c.loop-k.k c.loop-k.keys.items c.loop-k-test.false c.loop-k.invariant

pub bounds-labels-net_of : goal.bounds-labels-net_of
bounds-labels-net_of c = c.requires c.loop-k.k _ (get_within c.args.net_of.now c.loop-k.k 0 c.loop-k-test.true)
