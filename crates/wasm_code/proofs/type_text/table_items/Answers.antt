use Rattle.std.proofs.Common.{◌≡◌, ◌-◌, ◌+◌, ℕ, arith}
use Rattle.std.proofs.lemmas.Result.{err_from_is_err_and}
use Rattle.wasm_binary.specs.Lists.{is_zero}
use Rattle.wasm_binary.proofs.Runs.{begins, goes, run_fails, ends, not_zero, zero_is}
use Rattle.wasm_code.specs.TypeText.{table_type}
use Rattle.wasm_code.proofs.type_text.table_items.Goals as goal

pub loop-i-init : goal.loop-i-init
loop-i-init c =
    let e : c.args.count - 0 ≡ c.args.count = omega arith in
    let n = c.new-tables.ensures in
    rw (n, e) (begins (λ (left : ℕ). table_type) (λ left x. left - 1) is_zero c.args.reader.now c.args.count)

pub loop-i-preserved : goal.loop-i-preserved
loop-i-preserved c =
    let h = goes (λ (left : ℕ). table_type) (λ left x. left - 1) is_zero c.args.reader.now c.loop-i.reader c.table_limits.new.reader c.args.count c.loop-i.tables (c.args.count - c.loop-i.i) c.in_ok-table_limits.field-0 c.loop-i.invariant (not_zero _ (omega arith)) c.in_ok-table_limits.ensures in
    let e : c.args.count - c.loop-i.i - 1 ≡ c.args.count - (c.loop-i.i + 1) = omega arith in
    rw (c.in_ok-push.ensures.ok, ← e) h

pub returns-in_err-table_limits : goal.returns-in_err-table_limits
returns-in_err-table_limits c =
    let p = err_from_is_err_and c.from_residual.result c.from_residual.ensures.1 in
    rw (p.1, p.2) (run_fails (λ (left : ℕ). table_type) (λ left x. left - 1) is_zero c.args.reader.now c.loop-i.reader c.args.count c.loop-i.tables (c.args.count - c.loop-i.i) _ c.loop-i.invariant (not_zero _ (omega arith)) c.in_err-table_limits.ensures)

pub returns : goal.returns
returns c = ends (λ (left : ℕ). table_type) (λ left x. left - 1) is_zero c.args.reader.now c.loop-i.reader c.args.count c.loop-i.tables (c.args.count - c.loop-i.i) c.loop-i.invariant (zero_is _ (omega arith))
