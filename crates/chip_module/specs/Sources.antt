-- The chips of a project.
use Rattle.std.specs.Prelude.{ℕ, ◌≤◌, List, length, map, Option}
use Rattle.chip_module.specs.declared.source.ChipSource.{ChipSource}

-- a chip has no more pins than a chip can have
abbrev pub HasFewPins : ChipSource → Type 0
HasFewPins chip = length chip.pins ≤ 64

-- the pins of each chip
abbrev pub pins_of : List ChipSource → List (List (Option (List ℕ)))
pins_of chips = map (λ (chip : ChipSource). chip.pins) chips
