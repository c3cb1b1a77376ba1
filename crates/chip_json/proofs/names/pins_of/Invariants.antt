use Rattle.std.proofs.Common.{◌≡◌, ◌++◌, map, drop}
use Rattle.chip_json.specs.ChipJson.{pin_of}
use Rattle.chip_json.specs.Texts.{texts_in}
use Rattle.chip_json.proofs.names.pins_of.Given as goal

abbrev pub invariant-loop-i : goal.invariant-loop-i
invariant-loop-i l = l.pins ++ map pin_of (texts_in (drop l.i l.texts)) ≡ map pin_of (texts_in l.texts)
