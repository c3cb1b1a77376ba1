-- On a board each OLED shows what was written on its own lines.
use Rattle.std.proofs.Common.{◌≡◌, ℕ, zero, suc, ◌+◌, List, Option, Some, refl, ap, ◌∙◌}
use Rattle.std.specs.Prelude.{slice_get}
use Rattle.sim_base.specs.declared.signal.Level.{Level}
use Rattle.board_model.specs.Board.{input_at}
use Rattle.law_board.specs.Alone.{own_levels, part_run}
use Rattle.law_board.proofs.AloneLaw.{state_alone}
use Rattle.part_reactive.specs.Reaction.{at_start, reactive}
use Rattle.part_oled.specs.Oled.{OledState, new_oled, oled}
use Rattle.board_build.specs.declared.plan.PlanKind.{PlanKind}
use Rattle.board_build.specs.declared.plan.Plan.{Plan}
use Rattle.board_build.specs.IsPlan.{IsPlan}
use Rattle.chip_module.specs.Sources.{pins_of}
use Rattle.any_part.specs.AnyBehaviour.{an_oled}
use Rattle.any_part.specs.AnyPart.{AnyState, any, any_laws}
use Rattle.any_part.specs.Start.{Contents, reacting, start_in, starts}
use Rattle.any_part.proofs.StartLemmas.{all_ready, start_at}
use Rattle.law_oled.specs.OledRun.{AreShown, oled_in}
use Rattle.law_oled.proofs.OledLaw.{shows}

-- an OLED among parts of any kind runs as it does alone
oled_runs : (levels : ℕ → List Level) (inputs : ℕ → Option ℕ) (s : OledState) (n : ℕ) → part_run any levels inputs (reacting (an_oled s)) 0 n ≡ oled_in (part_run (reactive oled) levels inputs (at_start oled s) 0 n)
unfolding part_run
oled_runs levels inputs s zero = refl
oled_runs levels inputs s (suc n) = ap (λ (x : AnyState). (any.step x (0 + n) (levels n) (inputs n)).0) (oled_runs levels inputs s n)

pub are_shown : (has : Contents) (plan : Plan) → IsPlan (pins_of has.chips) plan → (n : ℕ) → AreShown has plan n
are_shown has plan is n = λ i part at kind t within.
    let s = new_oled part.settings in
    let levels = own_levels any plan.wiring plan.inputs (starts has plan.parts) 0 i 4 in
    let inputs : ℕ → Option ℕ = λ k. input_at plan.inputs (0 + k) i in
    let here : slice_get (starts has plan.parts) i ≡ Some (reacting (an_oled s)) =
    start_at has plan.parts i part (all_ready has plan is) at ∙ ap (λ (k : PlanKind). start_in has part.attrs part.settings k) kind in (
      part_run (reactive oled) levels inputs (at_start oled s) 0 t,
      state_alone any any_laws plan.wiring plan.inputs (starts has plan.parts) 0 i (reacting (an_oled s)) here t ∙ ap (λ (x : AnyState). Some x) (oled_runs levels inputs s t),
      shows part.settings levels inputs t,
    )
