-- A run of which nothing is written, by its plan.
use Rattle.std.proofs.Common.{◌≡◌, ℕ, List, map}
use Rattle.sim_base.specs.declared.wiring.Wiring.{Wiring}
use Rattle.sim_base.specs.declared.wiring.Input.{Input}
use Rattle.text_model.specs.Wave.{Variable}
use Rattle.board_run.specs.BoardView.{BoardView}
use Rattle.board_build.specs.declared.plan.Plan.{Plan}
use Rattle.chip_module.specs.Sources.{pins_of}
use Rattle.any_part.specs.AnyPart.{AnyPart, AnyState, state_of}
use Rattle.any_part.specs.Start.{Contents, starts}
use Rattle.board_outputs.specs.Variables.{board_variables}
use Rattle.board_outputs.proofs.PlayLemmas.{same_run}

-- what is counted of a board is counted of the plan whose board at its start it is
pub counted_is : (F : List Variable → Wiring → List Input → List AnyState → ℕ) (variables : List Variable) (v : BoardView AnyPart) (has : Contents)
    (plan : Plan) (r : ℕ) →
    variables ≡ board_variables (pins_of has.chips) plan → v.wiring ≡ plan.wiring → v.inputs ≡ plan.inputs → map state_of v.parts ≡ starts has plan.parts →
    r ≡ F variables v.wiring v.inputs (map state_of v.parts) → r ≡ F (board_variables (pins_of has.chips) plan) plan.wiring plan.inputs (starts has plan.parts)
counted_is F variables v has plan r shown wired given begun is = same_run (λ vs w inputs ss. r ≡ F vs w inputs ss) _ _ _ _ _ _ _ _ shown wired given begun is
