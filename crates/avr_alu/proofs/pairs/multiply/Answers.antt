use Rattle.std.proofs.Common.{rules, ◌*ℤ◌}
use Rattle.avr_alu.proofs.Words.{low_word_is}
use Rattle.avr_alu.proofs.pairs.multiply.Goals as goal

pub returns : goal.returns
returns c = low_word_is (c.args.a *ℤ c.args.b) c.remainder.result (search rules)
