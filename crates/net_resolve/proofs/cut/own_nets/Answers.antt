use Rattle.net_resolve.proofs.Common.{ℕ, get_or, slice_index, get_within}
use Rattle.net_resolve.proofs.CutLemmas.{map_next, map_all}
use Rattle.net_resolve.proofs.cut.own_nets.Goals as goal

pub loop-j-preserved : goal.loop-j-preserved
loop-j-preserved c =
    let f : ℕ → ℕ = λ k. slice_index c.args.numbers.now (slice_index c.args.net_of.now k) in
    map_next f c.args.pins.now c.loop-j.j 0 c.loop-j.own.items c.push.new.self.items c.loop-j-test.true c.loop-j.invariant c.in_ok-push.ensures.items

pub returns : goal.returns
returns c =
    let f : ℕ → ℕ = λ k. slice_index c.args.numbers.now (slice_index c.args.net_of.now k) in
    map_all f c.args.pins.now c.loop-j.j c.loop-j.own.items c.loop-j-test.false c.loop-j.invariant

pub bounds-net_of-pins : goal.bounds-net_of-pins
bounds-net_of-pins c = c.requires.pins c.loop-j.j _ (get_within c.args.pins.now c.loop-j.j 0 c.loop-j-test.true)

pub bounds-numbers-net_of : goal.bounds-numbers-net_of
bounds-numbers-net_of c =
    let k = get_or c.args.pins.now c.loop-j.j 0 in
    c.requires.nets k _ (get_within c.args.net_of.now k 0 (c.requires.pins c.loop-j.j k (get_within c.args.pins.now c.loop-j.j 0 c.loop-j-test.true)))
