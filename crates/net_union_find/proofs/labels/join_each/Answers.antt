use Rattle.std.proofs.Common.{arith, length, true, get_or}
use Rattle.std.proofs.lemmas.Option.{slice_get-get_or}
use Rattle.std.specs.Prelude.{replicate}
use Rattle.board_model.specs.Nets.{joined_by}
use Rattle.board_model.specs.Resolve.{contact_joins}
use Rattle.net_union_find.proofs.PairLemmas.{joining_start, joining_more, joining_end, joins_as, joined_chosen, get_replicate}
use Rattle.net_union_find.proofs.labels.join_each.Goals as goal

pub loop-i-init : goal.loop-i-init
loop-i-init c = joining_start c.args.parents.now c.args.pairs.now (replicate (length c.args.pairs.now) true) c.requires.forest

pub join-requires-clause-forest : goal.join-requires-clause-forest
join-requires-clause-forest c = c.loop-i.invariant.forest

pub join-requires-clause-a : goal.join-requires-clause-a
join-requires-clause-a c =
    let at = slice_get-get_or c.args.pairs.now c.loop-i.i (0, 0) c.loop-i-test.true in
    omega (arith, (c.requires.pairs c.loop-i.i _ at).0, c.loop-i.auto.parents)

pub join-requires-clause-b : goal.join-requires-clause-b
join-requires-clause-b c =
    let at = slice_get-get_or c.args.pairs.now c.loop-i.i (0, 0) c.loop-i-test.true in
    omega (arith, (c.requires.pairs c.loop-i.i _ at).1, c.loop-i.auto.parents)

pub loop-i-preserved : goal.loop-i-preserved
loop-i-preserved c =
    let cs = c.args.pairs.now in
    let at = slice_get-get_or cs c.loop-i.i (0, 0) c.loop-i-test.true in
    let inside = c.requires.pairs c.loop-i.i (get_or cs c.loop-i.i (0, 0)) at in
    joining_more c.args.parents.now cs (replicate (length cs) true) c.loop-i.i c.loop-i.parents c.join.new.parents (get_or cs c.loop-i.i (0, 0)) c.loop-i.invariant at
    (get_replicate true (length cs) c.loop-i.i c.loop-i-test.true) inside.0 inside.1 c.join.ensures.forest c.join.ensures.roots

pub returns-clause-forest : goal.returns-clause-forest
returns-clause-forest c = c.loop-i.invariant.forest

pub returns-clause-joins : goal.returns-clause-joins
returns-clause-joins c =
    let cs = c.args.pairs.now in
    joins_as (contact_joins cs (replicate (length cs) true)) (joined_by cs) c.args.parents.now c.loop-i.parents (joined_chosen cs)
    (joining_end c.args.parents.now cs (replicate (length cs) true) c.loop-i.i c.loop-i.parents c.loop-i.invariant c.loop-i-test.false)
