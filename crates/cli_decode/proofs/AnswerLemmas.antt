-- The answer to `decode`, by its wave.
use Rattle.std.proofs.Common.{◌≡◌, ℕ, List, Option, Result, Ok, Err, IfSome, ap, sym}
use Rattle.sim_base.specs.Outside.{Outside, SamePorts, Files}
use Rattle.sim_outcome_model.specs.Stop.{Stop, Texts}
use Rattle.sim_outcome_model.specs.Outcome.{Outcome}
use Rattle.sim_outcome_model.specs.Work.{ReadStops}
use Rattle.sim_outcome_model.specs.Happens.{Ends}
use Rattle.sim_outcome_model.specs.Promises.{IsOne}
use Rattle.sim_outcome_model.proofs.EndLemmas.{answered, answer_stops, one_answer}
use Rattle.sim_outcome_model.proofs.ReadLemmas.{one_within}
use Rattle.wave_decode.specs.declared.bus.Bus.{Bus}
use Rattle.wave_decode.specs.Levels.{Levels, levels_text}
use Rattle.cli_decode.specs.Answer.{DecodeAnswer, LevelsIn, texts_by}

module _ (wave first : List ℕ) (second : Option (List ℕ)) (bus : Bus) where
  pub one_decode : IsOne (DecodeAnswer wave first second bus)
  unfolding DecodeAnswer
  one_decode = one_answer (LevelsIn wave first second) (texts_by bus) (one_within 16777216 wave (levels_text first second))

  pub decode_answer : (told : Option Files) (rows : Levels) → IfSome told (λ files. LevelsIn wave first second files (Ok rows)) →
      IfSome told (λ files. DecodeAnswer wave first second bus files (Ok (texts_by bus rows)))
  unfolding DecodeAnswer
  decode_answer = answered (LevelsIn wave first second) (texts_by bus)

  pub decode_stops : (o : Outcome) (a b : Outside) → ReadStops o (LevelsIn wave first second) a b → SamePorts a b → Ends (DecodeAnswer wave first second bus) o a b
  unfolding DecodeAnswer
  decode_stops = answer_stops (LevelsIn wave first second) (texts_by bus)

  -- which counts no wakes
  pub decode_wakes : (files : Files) (t : Texts) → DecodeAnswer wave first second bus files (Ok t) → t.wakes ≡ 0
  unfolding DecodeAnswer
  decode_wakes files t (Ok rows, e, g) = let is : texts_by bus rows ≡ t = cc in ap (λ (u : Texts). u.wakes) (sym is)
  decode_wakes files t (Err s, e, g) = let bad : ◌≡◌ {A = Result Texts Stop} (Err s) (Ok t) = g in absurd (cc)
