use Rattle.std.proofs.Common.{◌≤◌, ◌∙◌, arith, length}
use Rattle.board_model.specs.Walks.{below}
use Rattle.board_model.proofs.Lists.{take_set_more, get-below, length-below, all_taken, take_whole}
use Rattle.net_union_find.proofs.forest.put_alone.Goals as goal

pub loop-i-preserved : goal.loop-i-preserved
loop-i-preserved c =
    take_set_more c.loop-i.parents (below (length c.args.parents.now)) c.loop-i.i c.loop-i.i (omega (arith, c.loop-i.auto.parents)) (get-below (length c.args.parents.now) c.loop-i.i c.loop-i-test.true) c.loop-i.invariant

pub returns : goal.returns
returns c =
    let long : length (below (length c.args.parents.now)) ≤ c.loop-i.i = omega (arith, length-below (length c.args.parents.now)) in
    all_taken c.loop-i.i c.loop-i.parents _ (omega (arith, c.loop-i.auto.parents)) (c.loop-i.invariant ∙ take_whole c.loop-i.i (below (length c.args.parents.now)) long)
