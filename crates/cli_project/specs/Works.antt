-- What reading a project gives.
use Rattle.std.specs.Prelude.{◌≡◌, ◌≤◌, ℕ, List, [], ◌∷◌, length, map, Option}
use Rattle.std.specs.List.{All}
use Rattle.std.specs.Option.{option_map}
use Rattle.input_texts.specs.declared.script.ScriptRow.{ScriptRow}
use Rattle.document_model.specs.declared.project.Project.{Project}
use Rattle.board_model.specs.Fits.{AreInputs}
use Rattle.board_build.specs.IsPlan.{IsPlan}
use Rattle.board_build.specs.declared.plan.Plan.{Plan}
use Rattle.chip_module.specs.Sources.{HasFewPins, pins_of}
use Rattle.chip_module.specs.declared.source.ChipSource.{ChipSource}
use Rattle.project_model.specs.Work as projects
use Rattle.cli_project.specs.declared.project.Paths.{Paths}
use Rattle.cli_project.specs.declared.project.ScriptedProject.{ScriptedProject}
use Rattle.cli_project.specs.declared.project.Work.{Work}

abbrev pub work_of : Work → projects.Work
work_of w = record { project = w.project; flash = w.flash; diagram = w.diagram; chips = w.chips; plan = w.plan; wave = w.wave.items }

-- What is true of a work that was read: its plan is of its chips, one for each that the project names, and their pins, the
-- script's values and the wave are within their limits.
pub record IsSound (w : projects.Work) : Type 0 where
  pub plan : IsPlan (pins_of w.chips) w.plan
  pub few_pins : All HasFewPins w.chips
  pub each : length w.chips ≡ length w.project.chips
  pub inputs : AreInputs (length w.plan.parts) w.plan.inputs
  pub short : length w.wave ≤ 16777216

-- a project, its firmware, diagram and chips, with a plan and the bytes of a wave
abbrev pub planned : Project → List ℕ → List ℕ → List ChipSource → Plan → List ℕ → projects.Work
planned project flash diagram chips plan wave = record { project = project; flash = flash; diagram = diagram; chips = chips; plan = plan; wave = wave }

abbrev pub script_path : ScriptedProject → Option (List ℕ)
script_path scripted = option_map (λ s. s.now) scripted.script

abbrev pub wave_path : Paths → Option (List ℕ)
wave_path paths = option_map (λ s. s.now) paths.wave

-- numbers of which none is below the one before, the first not below a bound
abbrev pub IsRising : ℕ → List ℕ → Type 0
IsRising least [] = Unit {0}
IsRising least (n ∷ ns) = (least ≤ n) × IsRising n ns

abbrev pub cycles_of : List ScriptRow → List ℕ
cycles_of rows = map (λ row. row.cycle) rows
