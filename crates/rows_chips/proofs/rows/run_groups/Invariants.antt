use Rattle.std.proofs.Common.{◌≤◌}
use Rattle.rows_chips.proofs.rows.run_groups.Given as goal

abbrev pub invariant-loop-text : goal.invariant-loop-text
invariant-loop-text l = l.chip.wakes ≤ l.chip.cycle
