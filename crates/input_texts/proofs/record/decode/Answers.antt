use Rattle.std.proofs.Common.{◌≡◌, ◌/◌, length, arith, ◌∙◌}
use Rattle.std.proofs.lemmas.List.{take_more, take_all}
use Rattle.text_model.specs.Hex.{hex_bytes}
use Rattle.input_texts.proofs.HexLemmas.{length-hex_bytes}
use Rattle.input_texts.proofs.record.decode.Goals as goal

pub loop-i-preserved : goal.loop-i-preserved
loop-i-preserved c =
    let len : length (hex_bytes c.args.digits.now) ≡ length c.args.digits.now / 2 = length-hex_bytes c.args.digits.now in
    let more = take_more (hex_bytes c.args.digits.now) c.loop-i.i 0 (omega arith) in
    cc

pub returns : goal.returns
returns c =
    let len : length (hex_bytes c.args.digits.now) ≡ length c.args.digits.now / 2 = length-hex_bytes c.args.digits.now in
    c.loop-i.invariant ∙ take_all c.loop-i.i (hex_bytes c.args.digits.now) (omega arith)
