use Rattle.net_resolve.proofs.Common.{get_or, get_within, own_pair}
use Rattle.net_resolve.proofs.CutLemmas.{map_next, map_all}
use Rattle.net_resolve.proofs.cut.own_pairs.Goals as goal

pub loop-j-preserved : goal.loop-j-preserved
loop-j-preserved c =
    map_next (own_pair c.args.numbers.now c.args.pairs.now) c.args.places.now c.loop-j.j 0 c.loop-j.own.items c.push.new.self.items c.loop-j-test.true c.loop-j.invariant c.in_ok-push.ensures.items

pub returns : goal.returns
returns c =
    map_all (own_pair c.args.numbers.now c.args.pairs.now) c.args.places.now c.loop-j.j c.loop-j.own.items c.loop-j-test.false c.loop-j.invariant

pub bounds-places-j : goal.bounds-places-j
bounds-places-j c = c.loop-j-test.true

pub bounds-pairs-places : goal.bounds-pairs-places
bounds-pairs-places c = c.requires.places c.loop-j.j _ (get_within c.args.places.now c.loop-j.j 0 c.loop-j-test.true)

pub bounds-pairs-places-in-loop-j : goal.bounds-pairs-places-in-loop-j
bounds-pairs-places-in-loop-j c = c.requires.places c.loop-j.j _ (get_within c.args.places.now c.loop-j.j 0 c.loop-j-test.true)

pub bounds-numbers-a : goal.bounds-numbers-a
bounds-numbers-a c =
    let k = get_or c.args.places.now c.loop-j.j 0 in
    let there = c.requires.places c.loop-j.j k (get_within c.args.places.now c.loop-j.j 0 c.loop-j-test.true) in
    (c.requires.nets k _ (get_within c.args.pairs.now k (0, 0) there)).0

pub bounds-numbers-b : goal.bounds-numbers-b
bounds-numbers-b c =
    let k = get_or c.args.places.now c.loop-j.j 0 in
    let there = c.requires.places c.loop-j.j k (get_within c.args.places.now c.loop-j.j 0 c.loop-j-test.true) in
    (c.requires.nets k _ (get_within c.args.pairs.now k (0, 0) there)).1
