use Rattle.std.proofs.Common.{◌*◌, ◌<◌, ◌≤◌, length}
use Rattle.event_queue.specs.Places.{IsWithout}
use Rattle.event_queue.proofs.due_tree.first_without.Given as goal

-- what was found is what would stand at the place
abbrev pub invariant-loop-place : goal.invariant-loop-place
invariant-loop-place l = record {
  some : 1 ≤ l.place;
  there : l.place < 2 * length l.dues;
  found : IsWithout l.dues l.best l.i l.place l.found;
}

abbrev pub decreases-loop-place : goal.decreases-loop-place
decreases-loop-place l = l.place
