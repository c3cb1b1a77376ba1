use Rattle.std.proofs.Common.{arith}
use Rattle.trace_run.proofs.RowLemmas.{count_here, count_whole, past_more}
use Rattle.trace_run.proofs.rows.count_on.Goals as goal

pub loop-count-preserved : goal.loop-count-preserved
loop-count-preserved c = past_more c.args.rows.now c.args.cycle c.loop-count.count c.loop-count.invariant c.loop-count-test.true (omega arith)

pub returns-else-from-cycle : goal.returns-else-from-cycle
returns-else-from-cycle c =
    count_here c.args.rows.now c.args.cycle c.loop-count.count c.requires.order c.loop-count.invariant c.loop-count-test.true (omega arith)

pub returns-after-loop-count : goal.returns-after-loop-count
returns-after-loop-count c = count_whole c.args.rows.now c.args.cycle c.loop-count.count c.loop-count.invariant (omega (arith, c.loop-count-test.false))
