use Rattle.board_run.proofs.Common.{◌∙◌, sym, ap, get_or, ℕ, Bool, ◌||◌, list_any, take_all, list_any_more, has_part}
use Rattle.board_run.proofs.gather.parts_on.Goals as goal

pub loop-i-preserved : goal.loop-i-preserved
loop-i-preserved c = λ k.
    let f = λ (n : ℕ). has_part (get_or c.args.on.now n (record { bits = 0 })) k in
    let at = get_or c.args.nets.now c.loop-i.i 0 in
    c.and-set.ensures k ∙ ap (λ (b : Bool). b || f at) (c.loop-i.invariant k) ∙ sym (list_any_more f c.args.nets.now c.loop-i.i 0 c.loop-i-test.true)

pub returns : goal.returns
returns c = λ k.
    let f = λ (n : ℕ). has_part (get_or c.args.on.now n (record { bits = 0 })) k in
    c.loop-i.invariant k ∙ ap (list_any f) (take_all c.loop-i.i c.args.nets.now c.loop-i-test.false)
