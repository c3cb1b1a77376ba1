use Rattle.net_resolve.proofs.Common.{◌≡◌, ◌<◌, ◌≤◌, ◌∙◌, sym, ap, arith, length, map, Some, true, false, length-map, below, take_set_more, some_map}
use Rattle.net_resolve.proofs.Common.{get-below, length-below, all_taken, take_whole, level_here}
use Rattle.net_resolve.proofs.SumLemmas.{level_chosen}
use Rattle.net_resolve.proofs.sums.put_levels.Goals as goal
use Rattle.net_resolve.proofs.sums.put_levels.Goals.{then-is_level_z, else-is_level_z}

pub loop-n-preserved : goal.loop-n-preserved
loop-n-preserved c =
    let groups = c.args.groups.now in
    let here = level_here groups c.args.strong.now c.args.areas.now c.args.sums.now in
    let at : c.loop-n.n < length groups = omega (arith, c.requires.levels) in
    let value = some_map here (below (length groups)) c.loop-n.n c.loop-n.n (get-below (length groups) c.loop-n.n at) in
    let chosen = level_chosen groups c.args.strong.now c.args.areas.now c.args.sums.now c.loop-n.n in
    let is : c.if-is_level_z.levels ≡ here c.loop-n.n = elim c.if-is_level_z.branch [
      | then-is_level_z w ↦ w.levels-is ∙ chosen true (sym w.if-is_level_z.true ∙ c.is_level_z.ensures)
      | else-is_level_z w ↦ w.levels-is ∙ chosen false (sym w.if-is_level_z.false ∙ c.is_level_z.ensures)
    ] in
    take_set_more c.loop-n.levels _ c.loop-n.n _ (omega (arith, c.loop-n.auto.levels)) (value ∙ ap Some (sym is)) c.loop-n.invariant

pub returns : goal.returns
returns c =
    let groups = c.args.groups.now in
    let here = level_here groups c.args.strong.now c.args.areas.now c.args.sums.now in
    let long : length (map here (below (length groups))) ≤ c.loop-n.n = simp length-map (omega (arith, length-below (length groups), c.requires.levels)) in
    all_taken c.loop-n.n c.loop-n.levels _ (omega (arith, c.loop-n.auto.levels)) (c.loop-n.invariant ∙ take_whole c.loop-n.n _ long)
