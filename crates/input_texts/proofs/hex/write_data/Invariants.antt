use Rattle.std.proofs.Common.{◌≡◌, ◌+◌, drop}
use Rattle.text_model.specs.Hex.{put}
use Rattle.input_texts.proofs.hex.write_data.Given as goal

abbrev pub invariant-loop-i : goal.invariant-loop-i
invariant-loop-i l = put l.flash (l.address + l.i) (drop l.i l.bytes) ≡ put l.fn.flash l.address l.bytes
