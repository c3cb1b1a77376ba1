-- What `bare HEX --us N` is answered with (profile).
use Rattle.std.specs.Prelude.{◌*◌, List, ℕ, Result}
use Rattle.sim_base.specs.Outside.{Files}
use Rattle.text_model.specs.Hex.{hex_image}
use Rattle.sim_outcome_model.specs.Stop.{Stop, Texts}
use Rattle.sim_outcome_model.specs.Work.{IsFile}
use Rattle.sim_outcome_model.specs.Happens.{AnswerOf}
use Rattle.cli_bare.specs.Bare.{bare_run}

-- the wave on standard output, or what is wrong with the file; one microsecond has 16 cycles
unfoldable pub BareAnswer : List ℕ → ℕ → Files → Result Texts Stop → Type 0
BareAnswer hex us = AnswerOf (IsFile hex hex_image) (λ flash. bare_run flash (16 * us))
