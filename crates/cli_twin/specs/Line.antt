-- The line of a twin: the first cycle, in it the first chip, and of this the first pin, at which two runs drive otherwise (profile).
use Rattle.std.specs.Prelude.{ℕ, zero, suc, List, [], ◌++◌, Option, None, Some, codes, decimal, slice_get, unwrap_or}
use Rattle.std.specs.Option.{option_or}
use Rattle.sim_base.specs.declared.signal.Drive.{Drive}
use Rattle.sim_base.specs.declared.signal.Drive.TheVariants as drives
use Rattle.law_board.specs.FirstDiff.{Difference, part_diff}
use Rattle.board_build.specs.declared.plan.PlanKind.{PlanKind}
use Rattle.board_build.specs.declared.plan.PlanKind.TheVariants as plans
use Rattle.board_build.specs.declared.plan.PlanPart.{PlanPart}
use Rattle.board_build.specs.declared.plan.Plan.{Plan}
use Rattle.board_build.specs.Pins.{pins_of_chip}
use Rattle.any_part.specs.AnyPart.{any}
use Rattle.any_part.specs.Start.{Contents}
use Rattle.law_isolation.specs.Worlds.{run_states}

-- the first difference of two runs in their first n cycles, each of its own board
unfoldable pub run_diff : Contents → Plan → Contents → Plan → ℕ → Option Difference
run_diff one plan other twin zero = None
run_diff one plan other twin (suc n) =
    option_or (run_diff one plan other twin n) (part_diff any plan.wiring n 0 (run_states one plan n) (run_states other twin n))

-- the cycles before a difference, or all n
abbrev pub end_at : ℕ → Option Difference → ℕ
end_at n None = n
end_at n (Some d) = d.cycle

abbrev pub drive_word : Drive → List ℕ
drive_word drives.Z = codes "z"
drive_word drives.Low = codes "low"
drive_word drives.High = codes "high"
drive_word drives.PullLow = codes "pulllow"
drive_word drives.PullHigh = codes "pullhigh"
-- no chip drives so
drive_word (drives.Wiper v) = codes "wiper"

abbrev pub id_of : Option PlanPart → List ℕ
id_of None = []
id_of (Some part) = part.id

-- the pins of a chip; no other part has any here
abbrev pub pins_in : List (List (Option (List ℕ))) → PlanKind → List (Option (List ℕ))
pins_in chip_pins (plans.Stock kind) = []
pins_in chip_pins (plans.Chip chip) = pins_of_chip chip_pins chip

abbrev pub pin_of : List (List (Option (List ℕ))) → ℕ → Option PlanPart → List ℕ
pin_of chip_pins pin None = []
pin_of chip_pins pin (Some part) = unwrap_or (unwrap_or (slice_get (pins_in chip_pins part.kind) pin) None) []

-- `same for C cycles`, or `first difference at cycle T chip ID pin NAME DRIVE_A DRIVE_B`
abbrev pub line : List (List (Option (List ℕ))) → List PlanPart → ℕ → Option Difference → List ℕ
line chip_pins parts n None = codes "same for " ++ (decimal n ++ codes " cycles\n")
line chip_pins parts n (Some d) =
    codes "first difference at cycle " ++ (decimal d.cycle ++ (codes " chip " ++ (id_of (slice_get parts d.part)
    ++ (codes " pin " ++ (pin_of chip_pins d.pin (slice_get parts d.part) ++ (codes " " ++ (drive_word d.one ++ (codes " " ++ (drive_word d.other ++ codes "\n")))))))))
