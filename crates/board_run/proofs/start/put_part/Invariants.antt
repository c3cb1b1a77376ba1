use Rattle.board_run.proofs.Common.{◌≡◌, ◌||◌, ◌&&◌, ℕ, length, take, eqb, Some, ◌==◌, slice_get, list_any, PartSet, has_part}
use Rattle.board_run.proofs.start.put_part.Given as goal

abbrev pub invariant-loop-j : goal.invariant-loop-j
invariant-loop-j l = record {
  long : length l.on ≡ length l.fn.on;
  on : (n k : ℕ) (a b : PartSet) → slice_get l.fn.on n ≡ Some a → slice_get l.on n ≡ Some b → has_part b k ≡ (has_part a k || ((k == l.i) && list_any (eqb n) (take l.j l.nets)));
}
