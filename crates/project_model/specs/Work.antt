-- A project in a folder (Wokwi, "wokwi.toml", "diagram.json"; the order of the files and their names are the profile's).
use Rattle.std.specs.Prelude.{List, [], ◌∷◌, ◌++◌, ◌==◌, ℕ, codes, if◌then◌else◌, Option, None, Some, unwrap_or, Result, Ok, Err}
use Rattle.sim_base.specs.declared.fault.Refusal.{Refusal}
use Rattle.sim_refusals.specs.Refusals.{ScriptPart}
use Rattle.text_model.specs.Hex.{hex_image}
use Rattle.document_model.specs.declared.project.Project.{Project}
use Rattle.document_model.specs.declared.project.ChipFile.{ChipFile}
use Rattle.document_model.specs.declared.diagram.Diagram.{Diagram}
use Rattle.document_model.specs.Project.{project_text}
use Rattle.document_model.specs.Diagram.{diagram_text}
use Rattle.sim_outcome_model.specs.Stop.{Stop, Refused}
use Rattle.sim_outcome_model.specs.Work.{Reading, Is, IsFile, IsFileWithin, JudgedFile, Then}
use Rattle.chip_json.specs.Display.{pins_and_display}
use Rattle.chip_module.specs.Binary.{Binary, Judges}
use Rattle.chip_module.specs.Sources.{pins_of}
use Rattle.chip_module.specs.declared.source.ChipSource.{ChipSource}
use Rattle.input_texts.specs.declared.script.ScriptRow.{ScriptRow}
use Rattle.input_script.specs.Script.{script_of}
use Rattle.board_build.specs.declared.plan.Plan.{Plan}
use Rattle.board_build.specs.Plan.{plan_of}

-- a file of a project is named by its folder, `/` and its path
abbrev pub in_folder : List ℕ → List ℕ → List ℕ
in_folder folder path = folder ++ (codes "/" ++ path)

-- What the project's file says, the firmware's flash image, the bytes of the diagram, none where it is generated, the chips of
-- the project in its order, the plan of the board, and the bytes of a wave.
pub record Work : Type 0 where
  pub project : Project
  pub flash : List ℕ
  pub diagram : List ℕ
  pub chips : List ChipSource
  pub plan : Plan
  pub wave : List ℕ

abbrev pub diagram_name : List ℕ → List ℕ
diagram_name folder = in_folder folder (codes "diagram.json")

-- what some bytes are read as, with the bytes themselves
abbrev pub with_bytes : {X : Type 0} → List ℕ → Result X Refusal → Result (X × List ℕ) Refusal
with_bytes bytes (Ok x) = Ok (x, bytes)
with_bytes bytes (Err r) = Err r

abbrev pub drawn : List ℕ → Result (Diagram × List ℕ) Refusal
drawn bytes = with_bytes bytes (diagram_text bytes)

-- a chip: its module, and then its pins and its display
abbrev pub PinsIn : List ℕ → List ℕ → Binary → Reading ChipSource
PinsIn folder path binary = Then (IsFile (in_folder folder path) pins_and_display) (λ found. Is (λ files. Ok (record { binary = binary; pins = found.0; display = found.1 })))

abbrev pub ChipIn : List ℕ → ChipFile → Reading ChipSource
ChipIn folder chip = Then (JudgedFile (in_folder folder chip.binary) Judges) (PinsIn folder chip.json)

-- the chips behind those that were read
unfoldable pub ChipsAfter : List ℕ → List ChipSource → List ChipFile → Reading (List ChipSource)
ChipsAfter folder read [] = Is (λ files. Ok read)
ChipsAfter folder read (chip ∷ chips) = Then (ChipIn folder chip) (λ source. ChipsAfter folder (read ++ source ∷ []) chips)

-- the lines of a script, none where no script is named; its name stands as it is, outside the folder
abbrev pub ScriptIn : Option (List ℕ) → Reading (List ScriptRow)
ScriptIn None = Is (λ files. Ok [])
ScriptIn (Some name) = IsFile name script_of

-- the bytes of a wave, at most 16,777,216, none where no wave is named; its name stands as it is, outside the folder
abbrev pub WaveIn : Option (List ℕ) → Reading (List ℕ)
WaveIn None = Is (λ files. Ok [])
WaveIn (Some name) = IsFileWithin 16777216 name (λ bytes. Ok bytes)

-- the file that a rule of the board names: the script where a part does not take what it gives, and else the diagram
abbrev pub file_of_rule : List ℕ → Option (List ℕ) → Refusal → List ℕ
file_of_rule folder script r = if r.number == ScriptPart then unwrap_or script (diagram_name folder) else diagram_name folder

abbrev pub by_rule : List ℕ → Option (List ℕ) → Result Plan Refusal → Result Plan Stop
by_rule folder script (Ok plan) = Ok plan
by_rule folder script (Err r) = Err (Refused (file_of_rule folder script r) r)

-- the plan of a project, its diagram, its chips and its script
abbrev pub PlanIn : List ℕ → Option (List ℕ) → Project → Diagram → List ChipSource → List ScriptRow → Reading Plan
PlanIn folder script project diagram chips rows = Is (λ files. by_rule folder script (plan_of project diagram (pins_of chips) rows))

-- what comes behind the project's file, the firmware, the diagram and the chips
abbrev pub BehindScript : List ℕ → Option (List ℕ) → Project → List ℕ → Diagram × List ℕ → List ChipSource → List ScriptRow → List ℕ → Reading Work
BehindScript folder script project flash diagram chips rows wave =
    Then (PlanIn folder script project diagram.0 chips rows)
    (λ plan. Is (λ files. Ok (record { project = project; flash = flash; diagram = diagram.1; chips = chips; plan = plan; wave = wave })))

abbrev pub BehindChips : List ℕ → Option (List ℕ) → Option (List ℕ) → Project → List ℕ → Diagram × List ℕ → List ChipSource → Reading Work
BehindChips folder script wave project flash diagram chips =
    Then (ScriptIn script) (λ rows. Then (WaveIn wave) (BehindScript folder script project flash diagram chips rows))

abbrev pub BehindDiagram : List ℕ → Option (List ℕ) → Option (List ℕ) → Project → List ℕ → Diagram × List ℕ → Reading Work
BehindDiagram folder script wave project flash diagram = Then (ChipsAfter folder [] project.chips) (BehindChips folder script wave project flash diagram)

abbrev pub BehindFirmware : List ℕ → Option (List ℕ) → Option (List ℕ) → Project → List ℕ → Reading Work
BehindFirmware folder script wave project flash = Then (IsFile (diagram_name folder) drawn) (BehindDiagram folder script wave project flash)

abbrev pub BehindProject : List ℕ → Option (List ℕ) → Option (List ℕ) → Project → Reading Work
BehindProject folder script wave project = Then (IsFile (in_folder folder project.firmware) hex_image) (BehindFirmware folder script wave project)

-- The work that a folder, a script and a wave hold, or the first file that is missing or refused: the files in this order, each
-- read and checked before the next, and then the rules of the board.
abbrev pub WorkIn : List ℕ → Option (List ℕ) → Option (List ℕ) → Reading Work
WorkIn folder script wave = Then (IsFile (in_folder folder (codes "wokwi.toml")) project_text) (BehindProject folder script wave)
