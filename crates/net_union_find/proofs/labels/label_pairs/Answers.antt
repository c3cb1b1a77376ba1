use Rattle.std.proofs.Common.{ℕ, List, sym, subst, arith, length}
use Rattle.board_model.specs.Nets.{joined_by}
use Rattle.net_union_find.specs.Forest.{AreLabels, Joins}
use Rattle.net_union_find.proofs.ClassLemmas.{below_labels, classes}
use Rattle.net_union_find.proofs.PairLemmas.{joined_bounds, joined_swap}
use Rattle.net_union_find.proofs.labels.label_pairs.Goals as goal

pub join_pairs-requires-clause-labels : goal.join_pairs-requires-clause-labels
join_pairs-requires-clause-labels c = subst AreLabels (sym c.put_alone.ensures) (below_labels (length c.args.labels.now))

pub returns : goal.returns
returns c =
    let new = c.join_pairs.new.labels in
    classes (joined_by c.args.pairs.now) (length c.args.labels.now) (joined_bounds (length c.args.labels.now) c.args.pairs.now c.requires.pairs) (joined_swap c.args.pairs.now) new
    (omega (arith, c.join_pairs.auto.labels, c.put_alone.auto.parents)) c.join_pairs.ensures.labels
    (subst (λ (old : List ℕ). Joins (joined_by c.args.pairs.now) old new) c.put_alone.ensures c.join_pairs.ensures.joins)
