use Rattle.std.proofs.Common.{◌≡◌, ◌/◌, length, arith}
use Rattle.text_model.specs.Hex.{hex_bytes}
use Rattle.input_texts.proofs.HexLemmas.{length-hex_bytes}
use Rattle.input_texts.proofs.record.read_digits.Goals as goal

pub meaning-requires-clause-count : goal.meaning-requires-clause-count
meaning-requires-clause-count c =
    let len : length (hex_bytes c.args.digits.now) ≡ length c.args.digits.now / 2 = length-hex_bytes c.args.digits.now in
    rw c.decode-bytes.ensures (omega arith)
