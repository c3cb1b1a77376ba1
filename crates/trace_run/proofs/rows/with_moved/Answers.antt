use Rattle.trace_run.proofs.rows.with_moved.Goals as goal

pub returns-then-count-before : goal.returns-then-count-before
returns-then-count-before c = λ k out. (out, λ e. c.if-count-before.true)

pub returns-else-count-before : goal.returns-else-count-before
returns-else-count-before c = λ k out. let w = c.with_pin.ensures k out in (w.0, λ e. absurd (w.1 e))
