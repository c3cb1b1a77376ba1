use Rattle.std.proofs.Common.{◌≡◌, arith, length}
use Rattle.board_model.specs.Nets.{joined_by}
use Rattle.net_union_find.proofs.PairLemmas.{joins_labels, joined_bounds}
use Rattle.net_union_find.proofs.labels.join_pairs.Goals as goal

pub returns-clause-joins : goal.returns-clause-joins
returns-clause-joins c =
    let old = c.args.labels.now in
    let p = c.join_each.new.parents in
    let long : length c.flatten.new.parents ≡ length old = omega (arith, c.join_each.auto.parents, c.flatten.auto.parents) in
    joins_labels (joined_by c.args.pairs.now) old p c.flatten.new.parents c.join_each.ensures.joins c.join_each.auto.parents long
    c.flatten.ensures.labels c.join_each.ensures.forest (joined_bounds (length old) c.args.pairs.now c.requires.pairs) c.flatten.ensures.roots
