-- What `module FILE` is answered with (profile).
use Rattle.std.specs.Prelude.{List, ℕ, Result}
use Rattle.sim_base.specs.Outside.{Files}
use Rattle.sim_outcome_model.specs.Stop.{Stop, Texts, accepted}
use Rattle.sim_outcome_model.specs.Work.{JudgedFile}
use Rattle.sim_outcome_model.specs.Happens.{AnswerOf}
use Rattle.chip_module.specs.Binary.{Judges}

-- that the module is accepted, or what is wrong with it, by what its bytes are worth
unfoldable pub ModuleAnswer : List ℕ → Files → Result Texts Stop → Type 0
ModuleAnswer name = AnswerOf (JudgedFile name Judges) (λ binary. accepted)
