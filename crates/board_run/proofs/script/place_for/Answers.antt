use Rattle.board_run.proofs.Common.{arith}
use Rattle.board_run.proofs.GiveLemmas.{place_found}
use Rattle.board_run.proofs.script.place_for.Goals as goal

pub returns-else-inputs-i-clause-place : goal.returns-else-inputs-i-clause-place
returns-else-inputs-i-clause-place c = λ x is.
    place_found c.args.inputs.now x (record { cycle = 0; part = 0; value = 0 }) c.loop-i.i c.requires c.loop-i.invariant.within
    (λ k y l e. let h = c.loop-i.invariant.later k y l e in omega (arith, h, is)) (λ more. let h = c.if-inputs-i.false in omega (arith, h, is))

pub returns-after-loop-i-clause-place : goal.returns-after-loop-i-clause-place
returns-after-loop-i-clause-place c = λ x is.
    place_found c.args.inputs.now x (record { cycle = 0; part = 0; value = 0 }) c.loop-i.i c.requires c.loop-i.invariant.within
    (λ k y l e. let h = c.loop-i.invariant.later k y l e in omega (arith, h, is)) (λ more. absurd (let h = c.loop-i-test.false in omega (arith, h, more)))
