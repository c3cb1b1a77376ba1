use Rattle.std.proofs.Common.{◌≡◌, take}
use Rattle.chip_module.specs.Sources.{pins_of}
use Rattle.chip_module.proofs.source.pins_of.Given as goal

abbrev pub invariant-loop-chip : goal.invariant-loop-chip
invariant-loop-chip l = l.pins ≡ pins_of (take l.chip-index l.chips)
