use Rattle.board_run.proofs.Common.{subst, arith, ℕ, Some, slice_get_within, some_same, IsAlone}
use Rattle.board_run.proofs.jump.first_alone.Goals as goal

pub returns-then-t-limit-clause-alone : goal.returns-then-t-limit-clause-alone
returns-then-t-limit-clause-alone c = λ x ex.
    let limit = c.first_input-limit.result in
    let alone : IsAlone c.args.inputs.now c.args.dues.now c.args.input c.in-Some.who c.args.t limit = record {
      here = slice_get_within c.args.dues.now c.in-Some.who (Some c.in-Some.field-0-0) c.in-Some.ensures.0;
      further = c.if-t-limit.true;
      others = λ k u other e. (let least = c.first_due_but-due.ensures.due k u other e in omega (arith, least, c.first_input-limit.ensures.within));
      silent = c.first_input-limit.ensures.silent;
      behind = c.first_input-limit.ensures.behind;
    } in
    subst (λ (z : ℕ × ℕ). IsAlone c.args.inputs.now c.args.dues.now c.args.input z.0 c.args.t z.1) (some_same ex) alone
