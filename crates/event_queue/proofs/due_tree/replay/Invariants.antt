use Rattle.std.proofs.Common.{◌≡◌, ◌≢◌, ℕ, ◌-◌, ◌*◌, ◌<◌, ◌≤◌, ◌/◌, length}
use Rattle.event_queue.specs.Places.{IsBest}
use Rattle.event_queue.proofs.due_tree.replay.Given as goal

-- at all places but the one above it the earlier of two stands
abbrev pub invariant-loop-place : goal.invariant-loop-place
invariant-loop-place l = record {
  some : 1 ≤ l.place;
  there : l.place < 2 * length l.dues;
  long : length l.best ≡ 64;
  best : (k : ℕ) → 1 ≤ k → k < length l.dues → k ≢ l.place / 2 → IsBest (length l.dues) l.dues l.best k;
}

abbrev pub decreases-loop-place : goal.decreases-loop-place
decreases-loop-place l = l.place - 1
