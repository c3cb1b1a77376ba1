-- What `make SEED --us N` is answered with (profile).
use Rattle.std.specs.Prelude.{◌*◌, ℕ, List, [], ◌∷◌, ◌++◌, length, codes, decimal, None, Some, Result}
use Rattle.sim_base.specs.Outside.{Files}
use Rattle.sim_outcome_model.specs.Stop.{Stop, Texts, JudgedAs, printed}
use Rattle.sim_outcome_model.specs.Work.{Reading, Then}
use Rattle.sim_outcome_model.specs.Happens.{AnswerOf}
use Rattle.document_model.specs.declared.project.Project.{Project}
use Rattle.document_model.specs.declared.diagram.Diagram.{Diagram}
use Rattle.board_make.specs.Board.{chip_file, chip_pins, diagram, project}
use Rattle.board_make.specs.Firmware.{image}
use Rattle.board_make.specs.Inverter.{inverter}
use Rattle.chip_module.specs.Binary.{Binary, Judges}
use Rattle.chip_module.specs.declared.source.ChipSource.{ChipSource}
use Rattle.project_model.specs.Work.{Work, BehindScript, in_folder}
use Rattle.any_part.specs.Start.{Contents}
use Rattle.vcd_text.specs.Writers.{capped}
use Rattle.project_run.specs.Counted.{run_changes}
use Rattle.project_run.specs.Run.{run_bytes, run_wakes}

-- no file is read; a complaint names this folder
abbrev pub folder : List ℕ
folder = codes "make"

-- bytes that count as a file's, judged
abbrev pub JudgedBytes : List ℕ → List ℕ → Reading Binary
JudgedBytes name bytes files = JudgedAs name (Judges bytes)

-- the chip's module, and its pins
abbrev pub source : Binary → ChipSource
source binary = record { binary = binary; pins = chip_pins; display = None }

-- the board of a project with one chip and no script, by the rules of boards
abbrev pub BehindModule : Project → List ℕ → Diagram → ChipSource → Reading Work
BehindModule made flash board chip = BehindScript folder None made flash (board, []) (chip ∷ []) [] []

-- The generated project of a seed: its module by the rules of modules, and then the board by its rules.
abbrev pub MadeIn : ℕ → Reading Work
MadeIn seed = Then (JudgedBytes (in_folder folder chip_file.binary) inverter) (λ binary. BehindModule project (image seed) (diagram seed) (source binary))

-- each call into a chip gets 1,000,000 units of fuel
abbrev pub contents : Work → Contents
contents work = record { flash = work.flash; chips = work.chips; budget = 1000000 }

-- `make SEED cycles C changes V serial S`: how many value changes the wave has after the initial values, and how many bytes
-- the Uno sends; a number that would pass 2^64 - 1 stays there
abbrev pub line : ℕ → ℕ → ℕ → ℕ → List ℕ
line seed cycles changes sent =
    codes "make " ++ (decimal seed ++ (codes " cycles " ++ (decimal cycles ++ (codes " changes " ++ (decimal changes
    ++ (codes " serial " ++ (decimal sent ++ codes "\n")))))))

abbrev pub made_line : ℕ → ℕ → Work → List ℕ
made_line seed n work = line seed n (capped (run_changes (contents work) work.plan n)) (capped (length (run_bytes (contents work) work.plan n)))

-- the line on Report, and what the run costs
abbrev pub made_texts : ℕ → ℕ → Work → Texts
made_texts seed n work = record {
  serial = [];
  wave = None;
  report = Some (printed (made_line seed n work));
  wakes = run_wakes (contents work) work.plan n;
}

-- the texts, or which rule the generated project breaks; one microsecond has 16 cycles
unfoldable pub MakeAnswer : ℕ → ℕ → Files → Result Texts Stop → Type 0
MakeAnswer seed us = AnswerOf (MadeIn seed) (made_texts seed (16 * us))
