use Rattle.std.proofs.Common.{◌≤◌}
use Rattle.rows_chips.proofs.rows.run_on.Given as goal

abbrev pub invariant-loop : goal.invariant-loop
invariant-loop l = l.chip.wakes ≤ l.chip.cycle
