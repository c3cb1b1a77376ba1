use Rattle.std.proofs.Common.{◌∙◌, ◌<◌, ℕ, List, [], ◌∷◌, None, Ok, refl, arith, ap, sym}
use Rattle.std.proofs.lemmas.List.Elements.{All-push}
use Rattle.sim_outcome_model.specs.Work.{Reading}
use Rattle.sim_outcome_model.proofs.ReadLemmas.{if_always, first_stops, got_both, steady_rule}
use Rattle.board_build.specs.declared.plan.Plan.{Plan}
use Rattle.chip_module.specs.Sources.{HasFewPins}
use Rattle.chip_module.specs.declared.source.ChipSource.{ChipSource}
use Rattle.document_model.specs.declared.project.Project.{Project}
use Rattle.project_model.specs.Work as model
use Rattle.project_model.specs.Work.{PlanIn}
use Rattle.sim_io.specs.Outcomes.{outcome_of}
use Rattle.cli_project.specs.declared.project.Work.{Work}
use Rattle.cli_project.specs.Works.{work_of}
use Rattle.cli_project.proofs.ProjectLemmas.{same_here}
use Rattle.cli_make.specs.Answer.{folder}
use Rattle.cli_make.proofs.MakeLemmas.{with_plan}
use Rattle.cli_make.proofs.project.behind_module.Goals as goal

pub returns-in-Ok-plan_board-clause-got : goal.returns-in-Ok-plan_board-clause-got
returns-in-Ok-plan_board-clause-got c = λ a.
    let chip : ChipSource = c.args.chip in
    let plan : Plan = c.in-Ok-plan_board.plan in
    let planned : Reading Plan = PlanIn folder None c.args.project c.args.diagram.now (chip ∷ []) [] in
    let project : Project = c.args.project in
    let flash : List ℕ = c.args.flash in
    let chips : List ChipSource = c.in-Ok.chips in
    let work : Work = record { project = project; flash = flash; diagram = c.new-bytes.result; chips = chips; plan = plan; wave = c.new-wave.result } in
    let has : List ChipSource → List ℕ → List ℕ → model.Work =
    λ (cs : List ChipSource) (bytes wave : List ℕ). record { project = project; flash = flash; diagram = bytes; chips = cs; plan = plan; wave = wave } in
    got_both planned (with_plan c.args.project c.args.flash chip) (steady_rule _) plan work_of outcome_of (Ok work) a a a (same_here a)
    (rw (c.as_slice.ensures, c.in-Ok.ensures, c.new-rows.ensures) at (c.in-Ok-plan_board.ensures.got a)) (
      if_always a.files _ (λ files.
          ap (λ (cs : List ChipSource). Ok (has cs [] [])) (sym c.in-Ok.ensures)
          ∙ ap (λ (bytes : List ℕ). Ok (has chips bytes [])) (sym c.new-bytes.ensures)
          ∙ ap (λ (wave : List ℕ). Ok (has chips c.new-bytes.result wave)) (sym c.new-wave.ensures.items)),
      refl,
    )

pub returns-in-Err-clause-got : goal.returns-in-Err-clause-got
returns-in-Err-clause-got c = λ a.
    let chip : ChipSource = c.args.chip in
    let planned : Reading Plan = PlanIn folder None c.args.project c.args.diagram.now (chip ∷ []) [] in
    first_stops planned (with_plan c.args.project c.args.flash chip) (outcome_of c.in-Err.end) a a
    (rw (c.as_slice.ensures, c.in-Ok.ensures, c.new-rows.ensures) at (c.in-Err.ensures.got a))

pub returns-in-Ok-plan_board-clause-sound : goal.returns-in-Ok-plan_board-clause-sound
returns-in-Ok-plan_board-clause-sound c = record {
  plan = rw c.as_slice.ensures at c.in-Ok-plan_board.ensures.plan;
  few_pins = rw c.in-Ok.ensures (All-push HasFewPins [] c.args.chip (λ (k : ℕ) (d : ChipSource) (none : k < 0). absurd (omega (arith, none))) c.requires.few);
  each = rw (c.in-Ok.ensures, c.requires.chips) refl;
  inputs = c.in-Ok-plan_board.ensures.inputs;
  short = rw c.new-wave.ensures.items (omega arith);
}
