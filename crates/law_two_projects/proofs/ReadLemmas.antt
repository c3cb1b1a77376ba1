-- What was read of a project that is accepted.
use Rattle.std.proofs.Common.{◌≡◌, ◌∙◌, ℕ, List, [], length, Bool, true, false, Option, None, Some, Result, Ok, Err, ap, sym, subst, codes, nat_lt, if◌then◌else◌}
use Rattle.std.specs.FinMap.{get}
use Rattle.sim_base.specs.declared.fault.Place.TheVariants as places
use Rattle.sim_refusals.specs.Refusals.{FileTooLong}
use Rattle.sim_base.specs.declared.fault.Refusal.{Refusal}
use Rattle.sim_base.specs.Outside.{Files}
use Rattle.sim_outcome_model.specs.Stop.{Stop, Missing, Refused, file_within, read_from, refused_in}
use Rattle.sim_outcome_model.specs.Work.{IsFile, Reading, Then}
use Rattle.document_model.specs.declared.diagram.Diagram.{Diagram}
use Rattle.document_model.specs.declared.project.Project.{Project}
use Rattle.document_model.specs.Diagram.{diagram_text}
use Rattle.document_model.specs.Project.{project_text}
use Rattle.text_model.specs.Hex.{hex_image}
use Rattle.input_texts.specs.declared.script.ScriptRow.{ScriptRow}
use Rattle.chip_module.specs.declared.source.ChipSource.{ChipSource}
use Rattle.chip_module.specs.Sources.{pins_of}
use Rattle.board_build.specs.declared.plan.Plan.{Plan}
use Rattle.board_build.specs.Plan.{plan_of}
use Rattle.project_model.specs.Work.{BehindChips, BehindDiagram, BehindFirmware, BehindProject, BehindScript, ChipsAfter, PlanIn, ScriptIn, WaveIn, Work, WorkIn, by_rule, diagram_name, drawn, file_of_rule, in_folder, with_bytes}

-- the diagram and the script of a work, of which its plan is
pub record IsAccepted (script : Option (List ℕ)) (files : Files) (work : Work) : Type 0 where
  pub diagram : Diagram
  pub rows : List ScriptRow
  pub drawn : diagram_text work.diagram ≡ Ok diagram
  pub scripted : ScriptIn script files (Ok rows)
  pub planned : plan_of work.project diagram (pins_of work.chips) rows ≡ Ok work.plan

-- a reading that ends well behind another one
pub both_read : {X Y : Type 0} (first : Reading X) (next : X → Reading Y) (files : Files) (y : Y) → Then first next files (Ok y) → (x : X) × first files (Ok x) × next x files (Ok y)
both_read first next files y (Ok x, e, n) = (x, e, n)
both_read {Y = Y} first next files y (Err s, e, n) = let bad : ◌≡◌ {A = Result Y Stop} (Err s) (Ok y) = n in absurd cc

-- what the bytes of a file that is read well stand for
file_read : {X : Type 0} (limit : ℕ) (files : Files) (name : List ℕ) (reading : List ℕ → Result X Refusal) (x : X) → file_within limit files name reading ≡ Ok x →
    (bytes : List ℕ) × (reading bytes ≡ Ok x)
file_read {X = X} limit files name reading x e = there (get files name) e
  where
    no : (s : Stop) → ◌≡◌ {A = Result X Stop} (Err s) (Ok x) → ⊥
    no s bad = cc

    read : (r : Result X Refusal) → refused_in name r ≡ Ok x → r ≡ Ok x
    read (Ok y) is = let same : y ≡ x = cc in ap Ok same
    read (Err r) is = absurd (no (Refused name r) is)

    within : (bytes : List ℕ) (long : Bool) → (if long then Err (Refused name (record { number = FileTooLong; place = places.Whole })) else refused_in name (reading bytes)) ≡ Ok x → reading bytes ≡ Ok x
    within bytes true is = absurd (no (Refused name (record { number = FileTooLong; place = places.Whole })) is)
    within bytes false is = read (reading bytes) is

    there : (file : Option (List ℕ)) → read_from name limit reading file ≡ Ok x → (bytes : List ℕ) × (reading bytes ≡ Ok x)
    there None is = absurd (no (Missing name) is)
    there (Some bytes) is = (bytes, within bytes (nat_lt limit (length bytes)) is)

-- a diagram is kept beside its bytes
beside : (bytes : List ℕ) (r : Result Diagram Refusal) (d : Diagram × List ℕ) → with_bytes bytes r ≡ Ok d → (r ≡ Ok d.0) × (bytes ≡ d.1)
beside bytes (Ok x) d e = let same : (x, bytes) ≡ d = cc in (ap (λ (p : Diagram × List ℕ). Ok p.0) same, ap (λ (p : Diagram × List ℕ). p.1) same)
beside bytes (Err r) d e = absurd cc

drawn_read : (files : Files) (name : List ℕ) (d : Diagram × List ℕ) → file_within 1048576 files name drawn ≡ Ok d → diagram_text d.1 ≡ Ok d.0
drawn_read files name d e =
    let file = file_read 1048576 files name drawn d e in
    let is = beside file.0 (diagram_text file.0) d file.1 in
    ap diagram_text (sym is.1) ∙ is.0

planned_read : (folder : List ℕ) (script : Option (List ℕ)) (r : Result Plan Refusal) (plan : Plan) → by_rule folder script r ≡ Ok plan → r ≡ Ok plan
planned_read folder script (Ok p) plan e = let same : p ≡ plan = cc in ap Ok same
planned_read folder script (Err r) plan e = let bad : ◌≡◌ {A = Result Plan Stop} (Err (Refused (file_of_rule folder script r) r)) (Ok plan) = e in absurd cc

-- what a work is made of
module _ (folder : List ℕ) (script wave : Option (List ℕ)) (files : Files) where
  made : (project : Project) (flash : List ℕ) (d : Diagram × List ℕ) (chips : List ChipSource) (rows : List ScriptRow) (bytes : List ℕ) (work : Work) →
      diagram_text d.1 ≡ Ok d.0 → ScriptIn script files (Ok rows) → BehindScript folder script project flash d chips rows bytes files (Ok work) → IsAccepted script files work
  made project flash d chips rows bytes work drawn scripted e =
      let plan = both_read (PlanIn folder script project d.0 chips rows) _ files work e in
      let is : record { project = project; flash = flash; diagram = d.1; chips = chips; plan = plan.0; wave = bytes } ≡ work = cc in
      subst (λ (w : Work). IsAccepted script files w) is
      (record { diagram = d.0; rows = rows; drawn = drawn; scripted = scripted; planned = planned_read folder script (plan_of project d.0 (pins_of chips) rows) plan.0 plan.1 })

  pub accepted : (work : Work) → WorkIn folder script wave files (Ok work) → IsAccepted script files work
  accepted work e =
      let p = both_read (IsFile (in_folder folder (codes "wokwi.toml")) project_text) (BehindProject folder script wave) files work e in
      let f = both_read (IsFile (in_folder folder p.0.firmware) hex_image) (BehindFirmware folder script wave p.0) files work p.2 in
      let d = both_read (IsFile (diagram_name folder) drawn) (BehindDiagram folder script wave p.0 f.0) files work f.2 in
      let c = both_read (ChipsAfter folder [] p.0.chips) (BehindChips folder script wave p.0 f.0 d.0) files work d.2 in
      let s = both_read (ScriptIn script) (λ rows. Then (WaveIn wave) (BehindScript folder script p.0 f.0 d.0 c.0 rows)) files work c.2 in
      let w = both_read (WaveIn wave) (BehindScript folder script p.0 f.0 d.0 c.0 s.0) files work s.2 in
      made p.0 f.0 d.0 c.0 s.0 w.0 work (drawn_read files (diagram_name folder) d.0 d.1) s.1 w.2
