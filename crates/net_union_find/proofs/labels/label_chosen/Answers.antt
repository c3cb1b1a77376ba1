use Rattle.std.proofs.Common.{ℕ, List, sym, subst, arith, length}
use Rattle.board_model.specs.Resolve.{contact_joins}
use Rattle.net_union_find.specs.Forest.{AreLabels, Joins}
use Rattle.net_union_find.proofs.ClassLemmas.{below_labels, classes}
use Rattle.net_union_find.proofs.PairLemmas.{contact_bounds, contact_swap}
use Rattle.net_union_find.proofs.labels.label_chosen.Goals as goal

pub join_chosen-requires-clause-labels : goal.join_chosen-requires-clause-labels
join_chosen-requires-clause-labels c = subst AreLabels (sym c.put_alone.ensures) (below_labels (length c.args.labels.now))

pub returns : goal.returns
returns c =
    let new = c.join_chosen.new.labels in
    classes (contact_joins c.args.pairs.now c.args.chosen.now) (length c.args.labels.now) (contact_bounds (length c.args.labels.now) c.args.pairs.now c.args.chosen.now c.requires.pairs) (contact_swap c.args.pairs.now c.args.chosen.now) new
    (omega (arith, c.join_chosen.auto.labels, c.put_alone.auto.parents)) c.join_chosen.ensures.labels
    (subst (λ (old : List ℕ). Joins (contact_joins c.args.pairs.now c.args.chosen.now) old new) c.put_alone.ensures c.join_chosen.ensures.joins)
