-- A chip alone: what it drives and how it stands, what it has printed and drawn included, by its module, its pins, its attributes,
-- the size of its display, the fuel of its calls and the levels of its own pins, and by nothing else (profile).
use Rattle.std.specs.Prelude.{◌≡◌, ◌≤◌, ℕ, List, length, map, Option, None, Some, slice_get}
use Rattle.std.proofs.Common.{inr}
use Rattle.sim_base.specs.declared.signal.Drive.{Drive}
use Rattle.sim_base.specs.declared.signal.Level.{Level}
use Rattle.board_model.specs.Board.{states}
use Rattle.board_model.specs.Walks.{below}
use Rattle.law_board.specs.Alone.{drive_rows, own_drives, own_levels, part_run}
use Rattle.board_build.specs.declared.plan.PlanKind.TheVariants as plans
use Rattle.board_build.specs.declared.plan.PlanPart.{PlanPart}
use Rattle.board_build.specs.declared.plan.Plan.{Plan}
use Rattle.chip_host.specs.Chip.{Chip, chip, start_state}
use Rattle.chip_module.specs.declared.source.ChipSource.{ChipSource}
use Rattle.any_part.specs.AnyPart.{AnyState, any}
use Rattle.any_part.specs.Start.{Contents, given_of, starts}

-- its drives in as many cycles, from cycle 0 on, as there are rows of levels
abbrev pub chip_run : ChipSource → List (List ℕ × List ℕ) → ℕ → List (List Level) → List (List Drive)
chip_run source attrs budget level_rows =
    drive_rows chip (start_state source.binary.wasm source.binary.init (given_of source attrs) budget) 0 level_rows

-- its state at cycle n, where each cycle k before brings its pins the levels k: with it its console, its display, and the trap
-- that ended it, if one did
abbrev pub chip_at : ChipSource → List (List ℕ × List ℕ) → ℕ → (ℕ → List Level) → ℕ → Chip
chip_at source attrs budget levels n = part_run chip levels (λ k. None) (start_state source.binary.wasm source.binary.init (given_of source attrs) budget) 0 n

-- the run of the board of a plan for n cycles
module _ (has : Contents) (plan : Plan) (n : ℕ) where
  -- what part i drives in each of these cycles
  abbrev pub run_drives : ℕ → List (List Drive)
  run_drives i = map (own_drives any plan.wiring plan.inputs (starts has plan.parts) 0 i) (below n)

  -- the levels of the pins of part i in a cycle, where it has so many
  abbrev pub levels_at : ℕ → ℕ → ℕ → List Level
  levels_at i pins = own_levels any plan.wiring plan.inputs (starts has plan.parts) 0 i pins

  -- and in each cycle of the run
  abbrev pub run_levels : ℕ → ℕ → List (List Level)
  run_levels i pins = map (levels_at i pins) (below n)

  -- the state of part i at a cycle
  abbrev pub state_at : ℕ → ℕ → Option AnyState
  state_at i t = slice_get (states any plan.wiring plan.inputs (starts has plan.parts) 0 t) i

  -- what a chip does alone on the levels of its own pins, part i does on the board: its drives in each cycle, and its state at
  -- each cycle up to the run's end
  pub record IsAlone (i : ℕ) (attrs : List (List ℕ × List ℕ)) (source : ChipSource) : Type 0 where
    pub drives : run_drives i ≡ chip_run source attrs has.budget (run_levels i (length source.pins))
    pub state : (t : ℕ) → t ≤ n → state_at i t ≡ Some (inr (inr (chip_at source attrs has.budget (levels_at i (length source.pins)) t)))

  -- each chip of the board is one of the project, and does what that one does alone
  abbrev pub AreAlone : Type 0
  AreAlone = (i : ℕ) (part : PlanPart) (c : ℕ) → slice_get plan.parts i ≡ Some part → part.kind ≡ plans.Chip c →
      (source : ChipSource) × (slice_get has.chips c ≡ Some source) × IsAlone i part.attrs source
