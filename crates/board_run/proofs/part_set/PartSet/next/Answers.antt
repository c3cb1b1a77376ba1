use Rattle.board_run.proofs.Common.{◌≡◌, ◌+◌, ℕ, arith, ap, ◌∙◌, ◌==◌, bit_at}
use Rattle.board_run.proofs.PartLemmas.{none_from, none_before, one_at}
use Rattle.board_run.proofs.part_set.PartSet.next.Goals as goal

pub returns-then-rest-eq0-clause-passed : goal.returns-then-rest-eq0-clause-passed
returns-then-rest-eq0-clause-passed c = λ k l h. none_from c.args.self.bits c.args.from k (omega (arith, c.if-rest-eq0.true)) l

pub returns-clause-here : goal.returns-clause-here
returns-clause-here c = λ more.
    let at : c.min.result ≡ c.args.from + c.lowest.result = omega (arith, more, c.min.ensures) in
    ap (λ (k : ℕ). bit_at c.args.self.bits k == 1) at ∙ one_at c.args.self.bits c.args.from c.lowest.result c.lowest.ensures.here

pub returns-clause-passed : goal.returns-clause-passed
returns-clause-passed c = λ k l h. none_before c.args.self.bits c.args.from c.lowest.result k c.lowest.ensures.passed l (omega (arith, h, c.min.ensures))
