use Rattle.trace_run.proofs.CountLemmas.{Counted}
use Rattle.trace_run.proofs.rows.count_all.Given as goal

abbrev pub invariant-loop-i : goal.invariant-loop-i
invariant-loop-i l = Counted l.pins l.cycle l.fn.counts l.counts l.next l.moved l.i

abbrev pub decreases-loop-i : goal.decreases-loop-i
decreases-loop-i l = l.i
