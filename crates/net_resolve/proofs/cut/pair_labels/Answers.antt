use Rattle.net_resolve.proofs.Common.{ℕ, slice_index, get_within}
use Rattle.net_resolve.proofs.CutLemmas.{map_next, map_all}
use Rattle.net_resolve.proofs.cut.pair_labels.Goals as goal

pub loop-k-preserved : goal.loop-k-preserved
loop-k-preserved c =
    let f : ℕ × ℕ → ℕ = λ p. slice_index c.args.labels.now p.0 in
    map_next f c.args.pairs.now c.loop-k.k (0, 0) c.loop-k.keys.items c.push.new.self.items c.loop-k-test.true c.loop-k.invariant c.in_ok-push.ensures.items

pub returns : goal.returns
returns c =
    let f : ℕ × ℕ → ℕ = λ p. slice_index c.args.labels.now p.0 in
    map_all f c.args.pairs.now c.loop-k.k c.loop-k.keys.items c.loop-k-test.false c.loop-k.invariant

pub bounds-pairs-k : goal.bounds-pairs-k
bounds-pairs-k c = c.loop-k-test.true

pub bounds-labels-first : goal.bounds-labels-first
bounds-labels-first c = (c.requires c.loop-k.k _ (get_within c.args.pairs.now c.loop-k.k (0, 0) c.loop-k-test.true)).0
