use Rattle.std.proofs.Common.{◌≡◌, length, take}
use Rattle.part_oled.specs.Picture.{cells_below}
use Rattle.part_oled.proofs.picture.Picture.page.Given as goal

abbrev pub invariant-loop-column : goal.invariant-loop-column
invariant-loop-column l = record {
  done : take l.column l.cells ≡ cells_below l.self l.page l.column;
  long : length l.cells ≡ 128;
}
