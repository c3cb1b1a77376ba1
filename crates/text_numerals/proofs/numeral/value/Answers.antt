use Rattle.std.proofs.Common.{◌≡◌, ℕ, ◌*◌, ◌^◌, ◌<◌, ◌≤◌, arith, lit<}
use Rattle.std.proofs.Math.Nat.{mul-le-mul, pow-le-pow_right}
use Rattle.text_numerals.proofs.numeral.value.Goals as goal

ten_digits : (f r n i : ℕ) → f ≡ r → r ≤ 16 → n < 16 ^ i → i < 10 → f * n ≤ 16 * 68719476735
ten_digits f r n i same small below few =
    let short : i ≤ 9 = omega arith in
    let power : 16 ^ i ≤ 16 ^ 9 = pow-le-pow_right (lit< tt) short in
    let most : n ≤ 68719476735 = omega (arith, power) in
    let sixteen : f ≤ 16 = omega arith in
    mul-le-mul sixteen most

pub overflow_mul-n : goal.overflow_mul-n
overflow_mul-n c =
    let few : c.loop-d.d-index < 10 = omega arith in
    omega (arith, ten_digits _ _ _ _ c.from.ensures c.requires.radix c.loop-d.invariant.small few)

pub overflow_add-n : goal.overflow_add-n
overflow_add-n c =
    let few : c.loop-d.d-index < 10 = omega arith in
    omega (arith, ten_digits _ _ _ _ c.from.ensures c.requires.radix c.loop-d.invariant.small few)
