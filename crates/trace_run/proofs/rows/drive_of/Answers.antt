use Rattle.std.proofs.Common.{sym, ap, ◌∙◌, ◌≡◌, ◌-◌, suc, ℕ, ◌∷◌, get_or, arith}
use Rattle.sim_base.specs.declared.signal.Drive.TheVariants as drives
use Rattle.trace_run.proofs.RowLemmas.{drive_counted}
use Rattle.trace_run.proofs.rows.drive_of.Goals as goal

pub returns-then-count-eq0 : goal.returns-then-count-eq0
returns-then-count-eq0 c = λ cycle is.
    ap (λ (k : ℕ). (get_or ((0, drives.Z) ∷ c.args.rows.now) k (0, drives.Z)).1) (sym c.if-count-eq0.true) ∙ sym (drive_counted c.args.rows.now cycle c.args.count is)

pub returns-else-count-eq0 : goal.returns-else-count-eq0
returns-else-count-eq0 c = λ cycle is.
    let next : suc (c.args.count - 1) ≡ c.args.count = omega (arith, c.if-count-eq0.false) in
    ap (λ (k : ℕ). (get_or ((0, drives.Z) ∷ c.args.rows.now) k (0, drives.Z)).1) next ∙ sym (drive_counted c.args.rows.now cycle c.args.count is)
