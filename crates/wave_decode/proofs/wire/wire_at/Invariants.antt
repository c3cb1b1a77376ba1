use Rattle.std.proofs.Common.{◌≡◌, ◌≤◌, ℕ, length}
use Rattle.wave_decode.specs.Rising.{IsRising, level_at}
use Rattle.wave_decode.proofs.wire.wire_at.Given as goal

abbrev pub invariant-loop-next : goal.invariant-loop-next
invariant-loop-next l = record {
  same : (u : ℕ) → l.t ≤ u → level_at l.level l.rows u ≡ level_at l.fn.wire.level l.fn.wire.rows.now u;
  rising : IsRising 0 l.rows;
  shorter : length l.rows ≤ length l.fn.wire.rows.now;
}

abbrev pub decreases-loop-next : goal.decreases-loop-next
decreases-loop-next l = length l.rows
