use Rattle.std.proofs.Common.{◌≡◌, ◌+◌, ◌≤◌, length}
use Rattle.text_model.specs.Lines.{lines}
use Rattle.text_model.specs.Hex.{hex_image, image_of}
use Rattle.input_texts.proofs.hex.read_hex.Given as goal

abbrev pub invariant-loop-rest : goal.invariant-loop-rest
invariant-loop-rest l = record {
  reading : image_of l.flash l.base l.number (lines l.rest) ≡ hex_image l.bytes;
  base : l.base ≤ 4294901760;
  number : l.number + length l.rest ≤ length l.bytes + 1;
}

abbrev pub decreases-loop-rest : goal.decreases-loop-rest
decreases-loop-rest l = length l.rest
