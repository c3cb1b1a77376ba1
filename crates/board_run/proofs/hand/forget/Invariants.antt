use Rattle.board_run.proofs.Common.{◌≡◌, ◌<◌, ℕ, Option, Some, None, length, slice_get}
use Rattle.board_run.proofs.hand.forget.Given as goal

abbrev pub invariant-loop-i : goal.invariant-loop-i
invariant-loop-i l = record {
  none : (k : ℕ) (a : Option ℕ) → k < l.i → slice_get l.answers k ≡ Some a → a ≡ None;
  long : length l.answers ≡ length l.fn.answers;
}
