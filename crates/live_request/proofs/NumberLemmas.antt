-- How large a number of few digits is.
use Rattle.std.proofs.Common.{◌≤◌, ◌<◌, ◌+◌, ◌^◌, ◌*◌, ℕ, arith, lit<}
use Rattle.std.proofs.Math.Nat.{pow-le-pow_right}

pub few_digits : (n i : ℕ) → n + 4 ≤ 4 * 10 ^ i → i < 14 → n ≤ 40000000000000
few_digits n i small below =
    let short : i ≤ 13 = omega arith in
    let power : 10 ^ i ≤ 10 ^ 13 = pow-le-pow_right (lit< tt) short in
    omega (arith, power)
