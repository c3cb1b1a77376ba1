use Rattle.net_resolve.proofs.Common.{◌≡◌, ◌≢◌, ℕ, ◌<◌, take, map, Some, true, false, ◌&&◌, slice_get, is_loose}
use Rattle.net_resolve.proofs.groups.put_bridges.Given as goal

abbrev pub invariant-loop-i : goal.invariant-loop-i
invariant-loop-i l = record {
  bridges : take l.i l.bridges ≡ take l.i (map (λ r. is_loose l.groups l.strong r.0 && is_loose l.groups l.strong r.1) l.resistors);
  none : l.found ≡ false → (k : ℕ) → k < l.i → slice_get l.bridges k ≢ Some true;
}
