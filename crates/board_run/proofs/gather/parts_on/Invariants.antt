use Rattle.board_run.proofs.Common.{◌≡◌, ℕ, take, get_or, list_any, has_part}
use Rattle.board_run.proofs.gather.parts_on.Given as goal

abbrev pub invariant-loop-i : goal.invariant-loop-i
invariant-loop-i l = (k : ℕ) → has_part l.set k ≡ list_any (λ n. has_part (get_or l.on n (record { bits = 0 })) k) (take l.i l.nets)
