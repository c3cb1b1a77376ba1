use Rattle.std.proofs.Common.{◌≡◌, take}
use Rattle.text_model.specs.Hex.{hex_bytes}
use Rattle.input_texts.proofs.record.decode.Given as goal

abbrev pub invariant-loop-i : goal.invariant-loop-i
invariant-loop-i l = l.bytes.items ≡ take l.i (hex_bytes l.digits)
