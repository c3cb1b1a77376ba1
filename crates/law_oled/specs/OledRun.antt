-- An OLED on a board, by the levels of its own pins and by nothing else (profile).
use Rattle.std.specs.Prelude.{◌≡◌, ◌≤◌, ℕ, ◌%◌, Some, slice_get}
use Rattle.std.proofs.Common.{inl, inr}
use Rattle.board_model.specs.Board.{states}
use Rattle.law_board.specs.Alone.{own_levels}
use Rattle.part_reactive.specs.Reaction.{Reacting}
use Rattle.part_catalog.specs.declared.kind.Kind.TheVariants as kinds
use Rattle.part_oled.specs.Oled.{OledState}
use Rattle.board_build.specs.declared.plan.PlanKind.TheVariants as plans
use Rattle.board_build.specs.declared.plan.PlanPart.{PlanPart}
use Rattle.board_build.specs.declared.plan.Plan.{Plan}
use Rattle.any_part.specs.AnyBehaviour.{an_oled}
use Rattle.any_part.specs.AnyPart.{AnyState, any}
use Rattle.any_part.specs.Start.{Contents, starts}
use Rattle.law_oled.specs.Shown.{shown_at}

-- an OLED as a part of any kind
abbrev pub oled_in : Reacting OledState → AnyState
oled_in s = inr (inl (record { own = an_oled s.own; held = s.held }))

-- At each cycle of a run of n cycles, each OLED's picture is that of the bytes that were written to its address, on its own two
-- lines, in the cycles before.
abbrev pub AreShown : Contents → Plan → ℕ → Type 0
AreShown has plan n = (i : ℕ) (part : PlanPart) → slice_get plan.parts i ≡ Some part → part.kind ≡ plans.Stock kinds.Ssd1306 → (t : ℕ) → t ≤ n →
    (s : Reacting OledState) × (slice_get (states any plan.wiring plan.inputs (starts has plan.parts) 0 t) i ≡ Some (oled_in s))
    × (s.own.picture ≡ shown_at (part.settings.number % 128) (own_levels any plan.wiring plan.inputs (starts has plan.parts) 0 i 4) t)
