-- What holds of a run: of its chips, whatever they do, and of what its OLEDs show (profile).
use Rattle.std.specs.Prelude.{◌≡◌, ℕ}
use Rattle.board_build.specs.declared.plan.Plan.{Plan}
use Rattle.any_part.specs.Start.{Contents}
use Rattle.project_run.specs.Run.{run_texts}
use Rattle.board_outputs.specs.Run.{Outputs}
use Rattle.law_oled.specs.OledRun.{AreShown}
use Rattle.law_isolation.specs.ChipRun.{AreAlone}
use Rattle.law_isolation.specs.PlayRun.{play_texts}
use Rattle.law_isolation.specs.Worlds.{SeesDrivesAlone}

-- what may be said of the run of a plan for so many cycles
abbrev pub Fact : Type 1
Fact = Contents → Plan → ℕ → Type 0

pub record Isolated (has : Contents) (plan : Plan) (n : ℕ) : Type 0 where
  -- the drives of each chip are those that it has alone
  pub alone : AreAlone has plan n
  -- the texts are those of the board with a player in place of each chip
  pub played : (out : Outputs) → run_texts out has plan n ≡ play_texts out has plan n
  -- of two boards whose chips drive the same, all else is the same
  pub worlds : SeesDrivesAlone has plan n
  -- each OLED shows what was written to its address on its own two lines
  pub shown : AreShown has plan n

-- a fact that follows from these
abbrev pub Follows : Fact → Type 0
Follows IsSo = (has : Contents) (plan : Plan) (n : ℕ) → Isolated has plan n → IsSo has plan n
