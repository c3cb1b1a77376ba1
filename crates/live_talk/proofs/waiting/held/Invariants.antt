use Rattle.std.proofs.Common.{◌≡◌, ◌+◌, ℕ, drop, map}
use Rattle.text_model.specs.Wave.{Source, shown_value}
use Rattle.live_talk.specs.Waiting.{wait_of, seen, held_by}
use Rattle.live_talk.proofs.waiting.held.Given as goal

abbrev pub invariant-loop-i : goal.invariant-loop-i
invariant-loop-i l = (value : Source → ℕ) → l.before ≡ map (λ w. seen value (wait_of w)) l.waits
    → held_by (shown_value l.levels l.drives) value l.sent (l.i + 1) (map wait_of (drop l.i l.waits)) ≡ held_by (shown_value l.levels l.drives) value l.sent 1 (map wait_of l.waits)
