use Rattle.std.proofs.Common.{◌<◌, arith}
use Rattle.live_request.proofs.NumberLemmas.{few_digits}
use Rattle.live_request.proofs.number.value.Goals as goal

pub overflow_mul-n : goal.overflow_mul-n
overflow_mul-n c =
    let few : c.loop-d.d-index < 14 = omega arith in
    omega (arith, few_digits _ _ c.loop-d.invariant.small few)

pub overflow_add-n : goal.overflow_add-n
overflow_add-n c =
    let few : c.loop-d.d-index < 14 = omega arith in
    omega (arith, few_digits _ _ c.loop-d.invariant.small few)
