use Rattle.std.proofs.Common.{◌≡◌, ℕ, ◌<◌, ◌≤◌, get_or}
use Rattle.net_union_find.specs.Forest.{root_of}
use Rattle.net_union_find.proofs.forest.flatten.Given as goal

abbrev pub invariant-loop-i : goal.invariant-loop-i
invariant-loop-i l = record {
  done : (x : ℕ) → x < l.i → get_or l.parents x 0 ≡ root_of l.fn.parents x;
  rest : (x : ℕ) → l.i ≤ x → get_or l.parents x 0 ≡ get_or l.fn.parents x 0;
}
