use Rattle.board_run.proofs.Common.{◌≡◌, ℕ, ◌<◌, ◌≤◌, length, Some, slice_get, Input}
use Rattle.board_run.proofs.script.place_for.Given as goal

abbrev pub invariant-loop-i : goal.invariant-loop-i
invariant-loop-i l = record {
  within : l.i ≤ length l.inputs;
  later : (k : ℕ) (x : Input) → l.i ≤ k → slice_get l.inputs k ≡ Some x → l.t < x.cycle;
}

abbrev pub decreases-loop-i : goal.decreases-loop-i
decreases-loop-i l = l.i
