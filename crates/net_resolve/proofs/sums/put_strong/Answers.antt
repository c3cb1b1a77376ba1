use Rattle.net_resolve.proofs.Common.{◌<◌, ◌≤◌, ◌∙◌, arith, length, map, length-map, below, take_set_more, some_map, get-below, length-below, all_taken}
use Rattle.net_resolve.proofs.Common.{take_whole, own_level}
use Rattle.net_resolve.proofs.SumLemmas.{driven_more}
use Rattle.net_resolve.proofs.sums.put_strong.Goals as goal

pub loop-n-preserved : goal.loop-n-preserved
loop-n-preserved c =
    let groups = c.args.groups.now in
    let at : c.loop-n.n < length groups = omega (arith, c.requires.levels) in
    let value = some_map (own_level groups c.args.strong.now) (below (length groups)) c.loop-n.n c.loop-n.n (get-below (length groups) c.loop-n.n at) in
    record {
      levels = take_set_more c.loop-n.levels _ c.loop-n.n _ (omega (arith, c.loop-n.auto.levels)) value c.loop-n.invariant.levels;
      driven = driven_more groups c.args.strong.now c.loop-n.n c.loop-n.driven c.is_level_z-is_loose.result c.is_level_z-is_loose.ensures c.loop-n.invariant.driven;
    }

pub returns : goal.returns
returns c =
    let groups = c.args.groups.now in
    let here = own_level groups c.args.strong.now in
    let long : length (map here (below (length groups))) ≤ c.loop-n.n = simp length-map (omega (arith, length-below (length groups), c.requires.levels)) in
    record {
      levels = all_taken c.loop-n.n c.loop-n.levels _ (omega (arith, c.loop-n.auto.levels)) (c.loop-n.invariant.levels ∙ take_whole c.loop-n.n _ long);
      driven = λ all n inside. c.loop-n.invariant.driven all n (omega (arith, inside, c.requires.levels));
    }
