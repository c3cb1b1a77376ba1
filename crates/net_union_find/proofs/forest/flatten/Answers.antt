use Rattle.std.proofs.Common.{arith}
use Rattle.net_union_find.proofs.ForestLemmas.{flat_more, flat_rest, roots_are_labels}
use Rattle.net_union_find.proofs.forest.flatten.Goals as goal

pub loop-i-preserved : goal.loop-i-preserved
loop-i-preserved c = record {
  done = flat_more c.loop-i.parents c.args.parents.now c.loop-i.i c.requires (omega arith) c.loop-i.invariant.done c.loop-i.invariant.rest;
  rest = flat_rest c.loop-i.parents c.args.parents.now c.loop-i.i _ c.loop-i.invariant.rest;
}

pub returns-clause-labels : goal.returns-clause-labels
returns-clause-labels c =
    roots_are_labels c.loop-i.parents c.args.parents.now c.requires c.loop-i.auto.parents (λ x l. c.loop-i.invariant.done x (omega arith))
