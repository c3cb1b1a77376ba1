use Rattle.std.proofs.Common.{◌++◌, [], refl}
use Rattle.board_make.specs.Firmware.{little}
use Rattle.board_make.proofs.firmware.write_opening.Goals as goal

pub returns : goal.returns
returns c = λ h. c.write_word-3.ensures (little 0xEF0F ++ little 0xB904) refl (c.write_word-2.ensures (little 0xEF0F) refl (c.write_word.ensures [] refl h))
