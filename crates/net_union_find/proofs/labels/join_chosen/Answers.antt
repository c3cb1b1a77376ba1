use Rattle.std.proofs.Common.{◌≡◌, arith, length}
use Rattle.board_model.specs.Resolve.{contact_joins}
use Rattle.net_union_find.proofs.PairLemmas.{joins_labels, contact_bounds}
use Rattle.net_union_find.proofs.labels.join_chosen.Goals as goal

pub returns-clause-joins : goal.returns-clause-joins
returns-clause-joins c =
    let old = c.args.labels.now in
    let p = c.join_trees.new.parents in
    let long : length c.flatten.new.parents ≡ length old = omega (arith, c.join_trees.auto.parents, c.flatten.auto.parents) in
    joins_labels (contact_joins c.args.pairs.now c.args.chosen.now) old p c.flatten.new.parents c.join_trees.ensures.joins c.join_trees.auto.parents long
    c.flatten.ensures.labels c.join_trees.ensures.forest (contact_bounds (length old) c.args.pairs.now c.args.chosen.now c.requires.pairs) c.flatten.ensures.roots
