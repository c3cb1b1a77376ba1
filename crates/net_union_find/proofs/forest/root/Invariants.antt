use Rattle.std.proofs.Common.{◌≡◌, ◌≤◌, ℕ}
use Rattle.net_union_find.specs.Forest.{IsForest, root_of}
use Rattle.net_union_find.proofs.forest.root.Given as goal

abbrev pub invariant-loop-parents : goal.invariant-loop-parents
invariant-loop-parents l = record {
  forest : IsForest l.parents;
  roots : (x : ℕ) → root_of l.parents x ≡ root_of l.fn.parents x;
  lower : l.at ≤ l.place;
  same : root_of l.fn.parents l.at ≡ root_of l.fn.parents l.place;
}

abbrev pub decreases-loop-parents : goal.decreases-loop-parents
decreases-loop-parents l = l.at
