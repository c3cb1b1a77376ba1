use Rattle.net_resolve.proofs.Common.{◌≡◌, ℕ, ◌<◌, take, map, length, true, false, below, is_loose, own_level}
use Rattle.net_resolve.proofs.sums.put_strong.Given as goal

abbrev pub invariant-loop-n : goal.invariant-loop-n
invariant-loop-n l = record {
  levels : take l.n l.levels ≡ take l.n (map (own_level l.groups l.strong) (below (length l.groups)));
  driven : l.driven ≡ true → (k : ℕ) → k < l.n → is_loose l.groups l.strong k ≡ false;
}
