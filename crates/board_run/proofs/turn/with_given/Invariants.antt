use Rattle.board_run.proofs.Common.{◌≡◌, ◌<◌, ℕ, [], drop, false, None, input_from, input_at, has_part}
use Rattle.board_run.proofs.turn.with_given.Given as goal

-- for a part that is not among them, what the values from here on leave of none is the value of the cycle
abbrev pub invariant-loop-input : goal.invariant-loop-input
invariant-loop-input l =
    record {
      marked : (t k : ℕ) → k < 64 → has_part l.set k ≡ false → (has_part l.fn.parts k ≡ false) × (input_from None (drop l.input-index l.given) t k ≡ input_at l.given t k);
      silent : l.given ≡ [] → l.set ≡ l.fn.parts;
    }
