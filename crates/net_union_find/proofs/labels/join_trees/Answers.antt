use Rattle.std.proofs.Common.{◌<◌, ◌+◌, ◌∙◌, sym, ap, arith, length, subst, false, Some, get_or, List, ℕ}
use Rattle.std.proofs.lemmas.Option.{slice_get-get_or}
use Rattle.net_union_find.proofs.PairLemmas.{Joining, joining_start, joining_more, joining_less, joining_end}
use Rattle.net_union_find.proofs.labels.join_trees.Goals as goal
use Rattle.net_union_find.proofs.labels.join_trees.Goals.{then-chosen-i, else-chosen-i}

pub loop-i-init : goal.loop-i-init
loop-i-init c = joining_start c.args.parents.now c.args.pairs.now c.args.chosen.now c.requires.forest

pub join-requires-clause-forest : goal.join-requires-clause-forest
join-requires-clause-forest c = c.loop-i.invariant.forest

pub join-requires-clause-a : goal.join-requires-clause-a
join-requires-clause-a c =
    let at = slice_get-get_or c.args.pairs.now c.loop-i.i (0, 0) c.loop-i-test.true in
    omega (arith, (c.requires.pairs c.loop-i.i _ at).0, c.loop-i.auto.parents)

pub join-requires-clause-b : goal.join-requires-clause-b
join-requires-clause-b c =
    let at = slice_get-get_or c.args.pairs.now c.loop-i.i (0, 0) c.loop-i-test.true in
    omega (arith, (c.requires.pairs c.loop-i.i _ at).1, c.loop-i.auto.parents)

pub loop-i-preserved : goal.loop-i-preserved
loop-i-preserved c =
    let old = c.args.parents.now in
    let cs = c.args.pairs.now in
    let chosen = c.args.chosen.now in
    let within : c.loop-i.i < length chosen = omega (arith, c.requires.chosen) in
    let at = slice_get-get_or cs c.loop-i.i (0, 0) c.loop-i-test.true in
    let flag = slice_get-get_or chosen c.loop-i.i false within in
    let inside = c.requires.pairs c.loop-i.i (get_or cs c.loop-i.i (0, 0)) at in
    elim c.if-chosen-i.branch [
      | then-chosen-i w ↦ subst (λ (ps : List ℕ). Joining old cs chosen (c.loop-i.i + 1) ps) (sym w.parents-is)
          (joining_more old cs chosen c.loop-i.i c.loop-i.parents w.join.new.parents (get_or cs c.loop-i.i (0, 0)) c.loop-i.invariant at (flag ∙ ap Some w.if-chosen-i.true) inside.0 inside.1 w.join.ensures.forest w.join.ensures.roots)
      | else-chosen-i w ↦ subst (λ (ps : List ℕ). Joining old cs chosen (c.loop-i.i + 1) ps) (sym w.parents-is)
          (joining_less old cs chosen c.loop-i.i c.loop-i.parents c.loop-i.invariant (flag ∙ ap Some w.if-chosen-i.false))
    ]

pub returns-clause-forest : goal.returns-clause-forest
returns-clause-forest c = c.loop-i.invariant.forest

pub returns-clause-joins : goal.returns-clause-joins
returns-clause-joins c = joining_end c.args.parents.now c.args.pairs.now c.args.chosen.now c.loop-i.i c.loop-i.parents c.loop-i.invariant c.loop-i-test.false
