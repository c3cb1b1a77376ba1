use Rattle.std.proofs.Common.{arith, ap, sym, subst, ℕ, Some}
use Rattle.law_board.specs.Player.{has_row}
use Rattle.trace_run.specs.Rows.{IsNext}
use Rattle.trace_run.proofs.RowLemmas.{next_none, next_some}
use Rattle.trace_run.proofs.rows.next_row.Goals as goal

pub returns-then-count-rows : goal.returns-then-count-rows
returns-then-count-rows c = λ cycle is.
    subst (λ (u : ℕ). IsNext (has_row c.args.rows.now) cycle (Some u)) (sym c.from.ensures) (next_some c.args.rows.now cycle c.args.count is c.requires c.if-count-rows.true)

pub returns-else-count-rows : goal.returns-else-count-rows
returns-else-count-rows c = λ cycle is. next_none c.args.rows.now cycle c.args.count is (omega (arith, c.if-count-rows.false))
