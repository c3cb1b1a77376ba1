use Rattle.board_run.proofs.Common.{◌≡◌, ◌<◌, ◌≤◌, ℕ, length, eqb, Some, false, slice_get, list_any, PartSet, has_part, part_nets}
use Rattle.board_run.proofs.start.put_parts.Given as goal

-- the parts before i are in their places
abbrev pub invariant-loop-i : goal.invariant-loop-i
invariant-loop-i l = record {
  long : length l.on ≡ length l.fn.on;
  done : (n k : ℕ) (set : PartSet) → k < l.i → slice_get l.on n ≡ Some set → has_part set k ≡ list_any (eqb n) (part_nets l.wiring k);
  rest : (n k : ℕ) (set : PartSet) → l.i ≤ k → slice_get l.on n ≡ Some set → has_part set k ≡ false;
}
