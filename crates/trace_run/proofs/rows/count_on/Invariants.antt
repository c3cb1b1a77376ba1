use Rattle.std.proofs.Common.{◌-◌, length}
use Rattle.trace_run.specs.Rows.{ArePast}
use Rattle.trace_run.proofs.rows.count_on.Given as goal

abbrev pub invariant-loop-count : goal.invariant-loop-count
invariant-loop-count l = ArePast l.rows l.cycle l.count

abbrev pub decreases-loop-count : goal.decreases-loop-count
decreases-loop-count l = length l.rows - l.count
