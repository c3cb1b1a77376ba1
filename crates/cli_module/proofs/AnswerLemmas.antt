-- The answer to `module`, by its file.
use Rattle.std.proofs.Common.{◌≡◌, ℕ, List, Option, Ok, refl, IfSome}
use Rattle.sim_base.specs.Outside.{Outside, SamePorts, Files}
use Rattle.sim_outcome_model.specs.Stop.{Texts, accepted}
use Rattle.sim_outcome_model.specs.Outcome.{Outcome}
use Rattle.sim_outcome_model.specs.Work.{JudgedFile, ReadStops}
use Rattle.sim_outcome_model.specs.Happens.{Ends}
use Rattle.sim_outcome_model.specs.Promises.{IsOne}
use Rattle.sim_outcome_model.proofs.EndLemmas.{answered, answer_stops, only_texts, one_answer}
use Rattle.sim_outcome_model.proofs.JudgeLemmas.{one_judged}
use Rattle.chip_module.specs.Binary.{Binary, Judges}
use Rattle.chip_module.proofs.BinaryLemmas.{one_binary, not_both, one_refusal}
use Rattle.cli_module.specs.Answer.{ModuleAnswer}

module _ (name : List ℕ) where
  abbrev texts_by : Binary → Texts
  texts_by binary = accepted

  pub one_module : IsOne (ModuleAnswer name)
  unfolding ModuleAnswer
  one_module = one_answer (JudgedFile name Judges) texts_by (one_judged name Judges one_binary not_both one_refusal)

  pub module_answer : (told : Option Files) (binary : Binary) → IfSome told (λ files. JudgedFile name Judges files (Ok binary)) → IfSome told (λ files. ModuleAnswer name files (Ok accepted))
  unfolding ModuleAnswer
  module_answer = answered (JudgedFile name Judges) texts_by

  pub module_stops : (o : Outcome) (a b : Outside) → ReadStops o (JudgedFile name Judges) a b → SamePorts a b → Ends (ModuleAnswer name) o a b
  unfolding ModuleAnswer
  module_stops = answer_stops (JudgedFile name Judges) texts_by

  pub module_only : (files : Files) (t : Texts) → ModuleAnswer name files (Ok t) → t ≡ accepted
  unfolding ModuleAnswer
  module_only files t e = only_texts (JudgedFile name Judges) texts_by accepted (λ binary. refl) files t e
