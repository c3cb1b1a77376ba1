use Rattle.board_run.proofs.Common.{arith, ◌<◌, get_or, length, Input, get_within}
use Rattle.board_run.proofs.NextLemmas.{silent_until, behind_until, addresses}
use Rattle.board_run.proofs.jump.first_input.Goals as goal
use Rattle.board_run.proofs.jump.first_input.Goals.{else-input-inputs-via-then-input-inputs+else-inputs-input, else-input-inputs-via-else-input-inputs}

pub returns-then-inputs-input-clause-silent : goal.returns-then-inputs-input-clause-silent
returns-then-inputs-input-clause-silent c = λ v k from before.
    let d : Input = record { cycle = 0; part = 0; value = 0 } in
    silent_until c.args.inputs.now c.args.input c.args.t (get_or c.args.inputs.now c.args.input d).cycle d c.requires.order c.requires.behind (λ h. omega arith) v k from before

pub returns-then-inputs-input-clause-behind : goal.returns-then-inputs-input-clause-behind
returns-then-inputs-input-clause-behind c =
    let d : Input = record { cycle = 0; part = 0; value = 0 } in
    behind_until c.args.inputs.now c.args.input c.args.t (get_or c.args.inputs.now c.args.input d).cycle d c.requires.order c.requires.behind (c.requires.behind.later c.args.input _ (omega arith) (get_within c.args.inputs.now c.args.input d (omega arith))) (λ h. omega arith)

pub returns-else-input-inputs-clause-silent : goal.returns-else-input-inputs-clause-silent
returns-else-input-inputs-clause-silent c = λ v k from before.
    let d : Input = record { cycle = 0; part = 0; value = 0 } in
    elim c.else-input-inputs.branch [
      | else-input-inputs-via-then-input-inputs+else-inputs-input w ↦ silent_until c.args.inputs.now c.args.input c.args.t c.args.n d c.requires.order c.requires.behind (λ h. omega arith) v k from before
      | else-input-inputs-via-else-input-inputs w ↦ silent_until c.args.inputs.now c.args.input c.args.t c.args.n d c.requires.order c.requires.behind (λ (h : c.args.input < length c.args.inputs.now). absurd (omega arith)) v k from before
    ]

pub returns-else-input-inputs-clause-behind : goal.returns-else-input-inputs-clause-behind
returns-else-input-inputs-clause-behind c =
    let d : Input = record { cycle = 0; part = 0; value = 0 } in
    elim c.else-input-inputs.branch [
      | else-input-inputs-via-then-input-inputs+else-inputs-input w ↦ behind_until c.args.inputs.now c.args.input c.args.t c.args.n d c.requires.order c.requires.behind c.requires.within (λ h. omega arith)
      | else-input-inputs-via-else-input-inputs w ↦ behind_until c.args.inputs.now c.args.input c.args.t c.args.n d c.requires.order c.requires.behind c.requires.within (λ (h : c.args.input < length c.args.inputs.now). absurd (omega arith))
    ]

pub returns-then-inputs-input-clause-one : goal.returns-then-inputs-input-clause-one
returns-then-inputs-input-clause-one c = λ less.
    let d : Input = record { cycle = 0; part = 0; value = 0 } in
    let x = get_or c.args.inputs.now c.args.input d in
    (x.part, addresses c.args.inputs.now c.args.input x (get_within c.args.inputs.now c.args.input d (omega arith)))
