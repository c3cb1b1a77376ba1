-- The parts of a plan with a player of a wave's drives in place of each chip, at cycle 0 (profile).
use Rattle.std.specs.Prelude.{◌≡◌, ◌≤◌, ℕ, List, length, true, Option, Some, slice_get, slice_index, take, drop, if◌then◌else◌}
use Rattle.std.specs.List.{All}
use Rattle.std.specs.Option.{option_map}
use Rattle.std.proofs.Common.{inl, inr}
use Rattle.law_board.specs.Player.{DriveRows, new_player}
use Rattle.law_board.specs.Play.{or_player}
use Rattle.trace_run.specs.Rows.{AreInOrder}
use Rattle.board_build.specs.declared.plan.PlanKind.{PlanKind}
use Rattle.board_build.specs.declared.plan.PlanPart.{PlanPart}
use Rattle.board_build.specs.declared.plan.Plan.{Plan}
use Rattle.board_build.specs.Parts.{is_chip}
use Rattle.board_build.specs.Pins.{count_of}
use Rattle.chip_module.specs.Sources.{pins_of}
use Rattle.any_part.specs.AnyPart.{any}
use Rattle.any_part.specs.Start.{Contents, start_of}
use Rattle.part_played.specs.Played.{PlayedPart, PlayedState, state_of, cycle_of, wakes_of}

-- the rows of a part's pins, of those of all pins of a board, where its pins begin at `first`
abbrev pub rows_from : List (List (Option (List ℕ))) → List DriveRows → ℕ → Option PlanKind → List DriveRows
rows_from chip_pins rows first kind = take (count_of chip_pins kind) (drop first rows)

-- those of part k of a plan
abbrev pub rows_of_part : List (List (Option (List ℕ))) → Plan → List DriveRows → ℕ → List DriveRows
rows_of_part chip_pins plan rows k = rows_from chip_pins rows (slice_index plan.wiring.first_pin k) (option_map (λ part. part.kind) (slice_get plan.parts k))

-- what is said of each pin of a plan's board, in the order of cycles
pub record AreRowsFor (plan : Plan) (rows : List DriveRows) : Type 0 where
  pub pins : length rows ≡ length plan.wiring.net_of
  pub few : length rows ≤ 4096
  pub order : All AreInOrder rows

-- how a part begins: a chip as a player of the rows of its pins, and any other part as in a run
abbrev pub play_start : Contents → List DriveRows → ℕ → PlanPart → Option PlayedState
play_start has rows first part =
    if is_chip (Some part.kind) then Some (inr (new_player (rows_from (pins_of has.chips) rows first (Some part.kind)))) else option_map inl (start_of has part)

-- a part at cycle 0 in its start state, not woken yet
pub record Begins (start : Option PlayedState) (part : PlayedPart) : Type 0 where
  pub state : start ≡ Some (state_of part)
  pub cycle : cycle_of part ≡ 0
  pub wakes : wakes_of part ≡ 0
  pub valid : (or_player any).valid (state_of part) 0 ≡ true
