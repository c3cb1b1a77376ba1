use Rattle.std.proofs.Common.{◌≤◌, ◌^◌, length, arith, lit<}
use Rattle.std.proofs.Math.Nat.{pow-le-pow_right}
use Rattle.text_numerals.proofs.numeral.read_numeral.Goals as goal

pub returns-clause-small : goal.returns-clause-small
returns-clause-small c =
    let short : length c.args.text.now ≤ c.args.longest = omega arith in
    let power : 16 ^ length c.args.text.now ≤ 16 ^ c.args.longest = pow-le-pow_right (lit< tt) short in
    omega (arith, power, c.value.ensures.small)
