-- Two worlds: boards that differ in what their chips are made of (profile).
use Rattle.std.specs.Prelude.{◌≡◌, ◌<◌, ◌≤◌, ℕ, List, false, Some}
use Rattle.board_model.specs.Board.{levels_of, states}
use Rattle.law_board.specs.Alike.{Alike}
use Rattle.law_board.specs.Worlds.{SameChips, SameRest}
use Rattle.board_build.specs.declared.plan.Plan.{Plan}
use Rattle.board_build.specs.declared.plan.PlanPart.{PlanPart}
use Rattle.board_build.specs.Parts.{is_chip}
use Rattle.chip_module.specs.Sources.{pins_of}
use Rattle.any_part.specs.AnyPart.{AnyState, any}
use Rattle.any_part.specs.Start.{Contents, starts}
use Rattle.board_report.specs.Report.{part_text, rest_text}
use Rattle.project_run.specs.Run.{run_bytes, run_wave}

-- a part of the same id and kind, and but for a chip with the same attributes
pub record IsSamePart (a b : PlanPart) : Type 0 where
  pub id : a.id ≡ b.id
  pub kind : a.kind ≡ b.kind
  pub rest : is_chip (Some a.kind) ≡ false → a ≡ b

-- Two projects that differ in the modules, attributes and displays of their chips, in the fuel of calls into these, and in nothing
-- else that a run goes by.
pub record DifferInChips (one other : Contents) (plan twin : Plan) : Type 0 where
  pub flash : one.flash ≡ other.flash
  pub pins : pins_of one.chips ≡ pins_of other.chips
  pub parts : Alike (λ k a b. IsSamePart a b) plan.parts twin.parts
  pub wiring : plan.wiring ≡ twin.wiring
  pub inputs : plan.inputs ≡ twin.inputs

-- the states of a run in cycle t
abbrev pub run_states : Contents → Plan → ℕ → List AnyState
run_states has plan t = states any plan.wiring plan.inputs (starts has plan.parts) 0 t

module _ (one other : Contents) (plan twin : Plan) (end : ℕ) where
  -- the chips of both drive the same in each cycle before this one
  abbrev pub DriveAlike : Type 0
  DriveAlike = (t : ℕ) → t < end → SameChips any plan.wiring (run_states one plan t) (run_states other twin t)

  -- All other parts are in the same states up to this cycle, and in it; the levels and bytes before it are the same. And so
  -- are the wave of these cycles, and the report on them but for the chips.
  pub record IsOneWorld : Type 0 where
    pub rest : (t : ℕ) → t ≤ end → SameRest plan.wiring (run_states one plan t) (run_states other twin t)
    pub levels : (t : ℕ) → t < end → levels_of any plan.wiring (run_states one plan t) ≡ levels_of any twin.wiring (run_states other twin t)
    pub bytes : (t : ℕ) → t ≤ end → run_bytes one plan t ≡ run_bytes other twin t
    pub wave : run_wave one plan end ≡ run_wave other twin end
    pub report : rest_text part_text end plan.parts (run_states one plan end) ≡ rest_text part_text end twin.parts (run_states other twin end)

-- In a run of n cycles the rest of the board sees of what its chips are made of nothing but their drives.
abbrev pub SeesDrivesAlone : Contents → Plan → ℕ → Type 0
SeesDrivesAlone one plan n = (other : Contents) (twin : Plan) (end : ℕ) → end ≤ n → DifferInChips one other plan twin →
    DriveAlike one other plan twin end → IsOneWorld one other plan twin end
