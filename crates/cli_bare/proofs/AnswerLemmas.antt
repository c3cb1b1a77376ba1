-- The answer to `bare`, by its firmware.
use Rattle.std.proofs.Common.{◌*◌, ℕ, List, Option, Ok, IfSome}
use Rattle.sim_base.specs.Outside.{Outside, SamePorts, Files}
use Rattle.text_model.specs.Hex.{hex_image}
use Rattle.sim_outcome_model.specs.Stop.{Texts}
use Rattle.sim_outcome_model.specs.Outcome.{Outcome}
use Rattle.sim_outcome_model.specs.Work.{IsFile, ReadStops}
use Rattle.sim_outcome_model.specs.Happens.{Ends}
use Rattle.sim_outcome_model.specs.Promises.{IsOne}
use Rattle.sim_outcome_model.proofs.ReadLemmas.{one_file}
use Rattle.sim_outcome_model.proofs.EndLemmas.{answered, answer_stops, one_answer}
use Rattle.cli_bare.specs.Bare.{bare_run}
use Rattle.cli_bare.specs.Answer.{BareAnswer}

module _ (hex : List ℕ) (us : ℕ) where
  -- the wave alone, by the flash
  abbrev texts_by : List ℕ → Texts
  texts_by flash = bare_run flash (16 * us)

  pub one_bare : IsOne (BareAnswer hex us)
  unfolding BareAnswer
  one_bare = one_answer (IsFile hex hex_image) texts_by (one_file hex hex_image)

  pub bare_answer : (told : Option Files) (flash : List ℕ) → IfSome told (λ files. IsFile hex hex_image files (Ok flash)) → IfSome told (λ files. BareAnswer hex us files (Ok (bare_run flash (16 * us))))
  unfolding BareAnswer
  bare_answer = answered (IsFile hex hex_image) texts_by

  pub bare_stops : (o : Outcome) (a b : Outside) → ReadStops o (IsFile hex hex_image) a b → SamePorts a b → Ends (BareAnswer hex us) o a b
  unfolding BareAnswer
  bare_stops = answer_stops (IsFile hex hex_image) texts_by
