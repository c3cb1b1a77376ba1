use Rattle.std.proofs.Common.{rules}
use Rattle.input_texts.proofs.HexLemmas.{hex_byte}
use Rattle.input_texts.proofs.record.byte_at.Goals as goal

pub returns : goal.returns
returns c = rw (hex_byte c.args.digits.now c.args.i c.requires.within) (search rules)
