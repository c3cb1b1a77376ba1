-- What a live board remembers between two answers, and what a line of a script adds to it (profile).
use Rattle.std.specs.Prelude.{ℕ, nat_lt, List, Bool, not, ◌||◌, Option, None, Some, Result, Ok, Err, if◌then◌else◌, map, unwrap_or, slice_get}
use Rattle.sim_base.specs.declared.wiring.Input.{Input}
use Rattle.sim_refusals.specs.Refusals.{RequestPart, RequestValue, RequestPast}
use Rattle.part_catalog.specs.Attributes.{greatest_of}
use Rattle.board_build.specs.declared.plan.PlanKind.{PlanKind}
use Rattle.board_build.specs.declared.plan.PlanKind.TheVariants as plans
use Rattle.board_build.specs.declared.plan.PlanPart.{PlanPart}
use Rattle.board_build.specs.Parts.{is_button, place_of}
use Rattle.live_request.specs.Request.{Acting}

-- the values that were given so far, those of the script's file among them, and the cycle that comes next
pub record Standing : Type 0 where
  pub inputs : List Input
  pub cycle : ℕ

-- that of a live board that was opened with these values
abbrev pub opened : List Input → Standing
opened inputs = record { inputs = inputs; cycle = 0 }

-- the greatest value that a part takes by this action: `press` and `release` are for buttons alone
abbrev pub greatest_by : Bool → Option PlanKind → Option ℕ
greatest_by press None = None
greatest_by press (Some (plans.Chip chip)) = None
greatest_by press (Some (plans.Stock kind)) = if not press || is_button kind then greatest_of kind else None

-- 106 where its cycle is run already
abbrev pub timely : ℕ → ℕ → ℕ → ℕ → Result Input ℕ
timely cycle part at value = if nat_lt at cycle then Err RequestPast else Ok (record { cycle = at; part = part; value = value })

-- 104 where the part has not the action, 105 where the value is above the greatest
abbrev pub valued : ℕ → ℕ → Acting → Option ℕ → Result Input ℕ
valued cycle part act None = Err RequestPart
valued cycle part act (Some greatest) =
    if nat_lt greatest act.value then Err RequestValue else timely cycle part (unwrap_or act.cycle cycle) act.value

-- 104 where no part has the id
abbrev pub input_by : List PlanPart → ℕ → Acting → Option ℕ → Result Input ℕ
input_by parts cycle act None = Err RequestPart
input_by parts cycle act (Some part) = valued cycle part act (greatest_by act.press (slice_get (map (λ (p : PlanPart). p.kind) parts) part))

-- the value that a line of a script gives in this cycle or later
abbrev pub input_of : List PlanPart → ℕ → Acting → Result Input ℕ
input_of parts cycle act = input_by parts cycle act (place_of (map (λ (p : PlanPart). p.id) parts) act.part)
