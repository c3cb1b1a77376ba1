use Rattle.std.proofs.Common.{◌≡◌, drop}
use Rattle.std.specs.List.{position_from}
use Rattle.std.specs.Str.{bytes_eq}
use Rattle.document_model.specs.declared.project.ChipFile.{ChipFile}
use Rattle.board_build.specs.Parts.{chip_place}
use Rattle.board_build.proofs.kinds.chip_place.Given as goal

abbrev pub invariant-loop-i : goal.invariant-loop-i
invariant-loop-i l = position_from (λ (chip : ChipFile). bytes_eq l.name chip.name) l.i (drop l.i l.chips) ≡ chip_place l.chips l.name
