-- What `decode WAVE` with the words of a bus is answered with (profile).
use Rattle.std.specs.Prelude.{ℕ, List, Option, Result}
use Rattle.sim_base.specs.Outside.{Files}
use Rattle.sim_outcome_model.specs.Stop.{Stop, Texts, printed, report_alone}
use Rattle.sim_outcome_model.specs.Work.{Reading, IsFileWithin}
use Rattle.sim_outcome_model.specs.Happens.{AnswerOf}
use Rattle.wave_decode.specs.declared.bus.Bus.{Bus}
use Rattle.wave_decode.specs.Frames.{frames_text}
use Rattle.wave_decode.specs.Levels.{Levels, levels_text}

-- the levels of the variables of one name or of two in a wave, of at most 16,777,216 bytes
abbrev pub LevelsIn : List ℕ → List ℕ → Option (List ℕ) → Reading Levels
LevelsIn wave first second = IsFileWithin 16777216 wave (levels_text first second)

-- on Report the lines of the frames that are on the bus
abbrev pub texts_by : Bus → Levels → Texts
texts_by bus rows = report_alone (printed (frames_text bus rows))

-- the lines, or that the wave is missing or what is wrong with it
unfoldable pub DecodeAnswer : List ℕ → List ℕ → Option (List ℕ) → Bus → Files → Result Texts Stop → Type 0
DecodeAnswer wave first second bus = AnswerOf (LevelsIn wave first second) (texts_by bus)
