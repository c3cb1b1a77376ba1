-- Two projects that differ in what their chips are made of, as their files say it (profile).
use Rattle.std.specs.Prelude.{◌≡◌, ℕ, List, map, Option, Some, Ok}
use Rattle.sim_base.specs.Outside.{Files}
use Rattle.document_model.specs.declared.diagram.Diagram.{Diagram}
use Rattle.document_model.specs.declared.diagram.PartText.{PartText}
use Rattle.document_model.specs.declared.project.ChipFile.{ChipFile}
use Rattle.document_model.specs.declared.project.Project.{Project}
use Rattle.document_model.specs.Diagram.{diagram_text}
use Rattle.input_texts.specs.declared.script.ScriptRow.{ScriptRow}
use Rattle.part_catalog.specs.declared.kind.Kind.{Kind}
use Rattle.part_catalog.specs.Kinds.{named_kind}
use Rattle.law_board.specs.Alike.{Alike}
use Rattle.chip_module.specs.Sources.{pins_of}
use Rattle.project_model.specs.Work.{ScriptIn, Work}

-- a part of the same type and id, and but for a chip with the same attributes
pub record IsSameText (a b : PartText) : Type 0 where
  pub kind : a.kind ≡ b.kind
  pub id : a.id ≡ b.id
  pub attrs : (kind : Kind) → named_kind a.kind ≡ Some kind → a.attrs ≡ b.attrs

-- the same wires, and the same parts but for the attributes of chips
pub record IsSameDrawing (a b : Diagram) : Type 0 where
  pub parts : Alike (λ k x y. IsSameText x y) a.parts b.parts
  pub wires : a.wires ≡ b.wires

-- the names of the chips of a project
abbrev pub names_of : Project → List (List ℕ)
names_of project = map (λ (chip : ChipFile). chip.name) project.chips

-- Two works that were read from files under a script: their chips have the same names and pins, and their firmware, diagrams and
-- scripts say the same but for the attributes of chips. What their modules do may differ.
pub record DifferInMakes (script other : Option (List ℕ)) (files more : Files) (work twin : Work) : Type 0 where
  pub names : names_of work.project ≡ names_of twin.project
  pub pins : pins_of work.chips ≡ pins_of twin.chips
  pub flash : work.flash ≡ twin.flash
  pub drawn : (a b : Diagram) → diagram_text work.diagram ≡ Ok a → diagram_text twin.diagram ≡ Ok b → IsSameDrawing a b
  pub scripted : (rows lines : List ScriptRow) → ScriptIn script files (Ok rows) → ScriptIn other more (Ok lines) → rows ≡ lines
