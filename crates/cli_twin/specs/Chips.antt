-- The start states of the chips of a plan alone.
use Rattle.std.specs.Prelude.{◌≡◌, ℕ, List, Option, None, Some, slice_get}
use Rattle.std.specs.List.{flat_map}
use Rattle.std.specs.Option.{option_map, option_to_list}
use Rattle.board_build.specs.declared.plan.PlanKind.{PlanKind}
use Rattle.board_build.specs.declared.plan.PlanKind.TheVariants as plans
use Rattle.board_build.specs.declared.plan.PlanPart.{PlanPart}
use Rattle.chip_module.specs.declared.source.ChipSource.{ChipSource}
use Rattle.any_part.specs.AnyPart.{AnyState, AnyPart}
use Rattle.any_part.specs.Start.{Begins, chip_at_start}

-- a chip's; a part of any other kind has none here
abbrev pub chip_start : ℕ → List ChipSource → List (List ℕ × List ℕ) → PlanKind → Option AnyState
chip_start budget chips attrs (plans.Stock kind) = None
chip_start budget chips attrs (plans.Chip chip) = option_map (chip_at_start budget attrs) (slice_get chips chip)

abbrev pub chip_starts : ℕ → List ChipSource → List PlanPart → List AnyState
chip_starts budget chips parts = flat_map (λ (part : PlanPart). option_to_list (chip_start budget chips part.attrs part.kind)) parts

-- a part that begins so, or none
abbrev pub Started : Option AnyState → Option AnyPart → Type 0
Started start None = start ≡ None
Started start (Some part) = Begins start part
