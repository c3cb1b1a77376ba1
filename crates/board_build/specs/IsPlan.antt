-- What holds of each plan that `build` answers: its wiring is that of its parts, and names only nets and parts that there
-- are (profile).
use Rattle.std.specs.Prelude.{◌≡◌, ℕ, ◌<◌, ◌≤◌, List, length, map, Bool, nat_lt, true, Option, Some, slice_get}
use Rattle.std.specs.List.{list_all, sum_by, count_by}
use Rattle.sim_base.specs.declared.wiring.Input.{Input}
use Rattle.board_model.specs.Fits.{IsWiring}
use Rattle.board_build.specs.declared.plan.PlanKind.{PlanKind}
use Rattle.board_build.specs.declared.plan.PlanKind.TheVariants as plans
use Rattle.board_build.specs.declared.plan.PlanPart.{PlanPart}
use Rattle.board_build.specs.declared.plan.Plan.{Plan}
use Rattle.board_build.specs.Parts.{is_uno, is_chip}
use Rattle.board_build.specs.Pins.{count_of, starts_from, contacts_inside}

-- a part of a kind of the catalogue, or one of so many chips
abbrev pub can_run : ℕ → PlanKind → Bool
can_run chips (plans.Stock kind) = true
can_run chips (plans.Chip chip) = nat_lt chip chips

abbrev pub kinds_in : List PlanPart → List (Option PlanKind)
kinds_in parts = map (λ (part : PlanPart). Some part.kind) parts

abbrev pub contact_count : Option PlanKind → ℕ
contact_count kind = length (contacts_inside kind)

-- `chip_pins` has the pins of each chip of the project
pub record IsPlan (chip_pins : List (List (Option (List ℕ)))) (plan : Plan) : Type 0 where
  pub few : length plan.parts ≤ 64
  pub ready : list_all (λ (part : PlanPart). can_run (length chip_pins) part.kind) plan.parts ≡ true
  pub one_uno : count_by is_uno (kinds_in plan.parts) ≡ 1
  pub few_chips : count_by is_chip (kinds_in plan.parts) ≤ 8
  pub wiring : IsWiring plan.wiring
  pub first_pins : plan.wiring.first_pin ≡ starts_from chip_pins 0 (kinds_in plan.parts)
  pub chips : plan.wiring.chip ≡ map is_chip (kinds_in plan.parts)
  pub pins : length plan.wiring.net_of ≡ sum_by (count_of chip_pins) (kinds_in plan.parts)
  pub contacts : length plan.wiring.contacts ≡ sum_by contact_count (kinds_in plan.parts)
  pub for_parts : (k : ℕ) (input : Input) → slice_get plan.inputs k ≡ Some input → input.part < length plan.parts
