-- What `twin FOLDER_A FOLDER_B --us N [--budget N]` is answered with (profile).
use Rattle.std.specs.Prelude.{◌≡◌, ◌≤◌, ◌+◌, ◌*◌, ℕ, List, Option, Result, Ok, Err}
use Rattle.sim_base.specs.Outside.{Files}
use Rattle.law_board.specs.FirstDiff.{Difference}
use Rattle.law_board.specs.Worlds.{SameRest}
use Rattle.sim_outcome_model.specs.Stop.{Stop, Texts, printed, report_alone}
use Rattle.sim_outcome_model.specs.Work.{Reading, Then}
use Rattle.board_twin.specs.Twins.{chip_pairs}
use Rattle.any_part.specs.AnyPart.{any}
use Rattle.any_part.specs.Start.{Contents, starts}
use Rattle.chip_module.specs.Sources.{pins_of}
use Rattle.project_model.specs.Work.{Work}
use Rattle.project_run.specs.Run.{run_wakes}
use Rattle.law_isolation.specs.Worlds.{run_states}
use Rattle.cli_twin.specs.Shared.{Pair, PairIn}
use Rattle.cli_twin.specs.Line.{end_at, line, run_diff}

-- what the parts are loaded with, where each call into a chip gets so much fuel
abbrev pub contents : Work → ℕ → Contents
contents work budget = record { flash = work.flash; chips = work.chips; budget = budget }

module _ (budget n : ℕ) (pair : Pair) where
  -- the first difference of the runs of both in n cycles
  abbrev pub difference : Option Difference
  difference = run_diff (contents pair.one budget) pair.one.plan (contents pair.other budget) pair.other.plan n

  abbrev pub pair_line : List ℕ
  pair_line = line (pins_of pair.one.chips) pair.one.plan.parts n difference

  -- the texts of so many wakes: the line on Report
  abbrev pub line_texts : ℕ → Texts
  line_texts wakes = record (report_alone (printed pair_line)) { wakes = wakes }

  -- the pairs of a cycle before the difference and a part of the first board, or a chip of the second, that is active in it
  abbrev pub pair_wakes : ℕ
  pair_wakes =
      run_wakes (contents pair.one budget) pair.one.plan (end_at n difference)
      + chip_pairs any pair.other.plan.wiring pair.other.plan.inputs (starts (contents pair.other budget) pair.other.plan.parts) (end_at n difference)

  -- The line of two runs. It costs at most those wakes, since what is no chip is run once for both: up to the difference, its
  -- cycle included, it is in the same states.
  pub record IsLineOf (t : Texts) : Type 0 where
    pub says : t ≡ line_texts t.wakes
    pub costs : t.wakes ≤ pair_wakes
    pub rest : (c : ℕ) → c ≤ end_at n difference →
        SameRest pair.one.plan.wiring (run_states (contents pair.one budget) pair.one.plan c) (run_states (contents pair.other budget) pair.other.plan c)

  abbrev pub LineOf : Reading Texts
  LineOf files (Ok t) = IsLineOf t
  LineOf files (Err stop) = ⊥

-- the line of the two projects, or what is wrong with them first; one microsecond has 16 cycles
unfoldable pub TwinAnswer : List ℕ → List ℕ → ℕ → ℕ → Files → Result Texts Stop → Type 0
TwinAnswer folder other us budget = Then (PairIn folder other) (LineOf budget (16 * us))
