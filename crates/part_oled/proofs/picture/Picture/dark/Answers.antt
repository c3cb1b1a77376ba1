use Rattle.std.proofs.Common.{refl}
use Rattle.part_oled.specs.Picture.{dark_cells}
use Rattle.part_oled.proofs.picture.Picture.dark.Goals as goal

pub returns : goal.returns
unfolding dark_cells
returns c = refl
