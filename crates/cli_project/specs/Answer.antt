-- What `check FOLDER` is answered with (profile).
use Rattle.std.specs.Prelude.{List, ℕ, None, Result}
use Rattle.sim_base.specs.Outside.{Files}
use Rattle.sim_outcome_model.specs.Stop.{Stop, Texts, accepted}
use Rattle.sim_outcome_model.specs.Happens.{AnswerOf}
use Rattle.project_model.specs.Work.{WorkIn}

-- that the project is accepted, or what is wrong with it first
unfoldable pub CheckAnswer : List ℕ → Files → Result Texts Stop → Type 0
CheckAnswer folder = AnswerOf (WorkIn folder None None) (λ work. accepted)
