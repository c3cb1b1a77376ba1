use Rattle.cli_project.proofs.Common.{ℕ, List, Option, Ok, Err, refl, err_from_is_err_and, Outside, Files, ScriptRow, ChipSource, Reading, Is, Then, if_always}
use Rattle.cli_project.proofs.Common.{first_stops, got_both, steady_rule, ScriptIn, WaveIn, PlanIn, BehindScript, outcome_of, planned, script_path, wave_path}
use Rattle.document_model.specs.declared.project.Project.{Project}
use Rattle.board_build.specs.declared.plan.Plan.{Plan}
use Rattle.project_model.specs.Work as model
use Rattle.cli_project.proofs.ProjectLemmas.{steady_script, steady_wave, same_here}
use Rattle.cli_project.proofs.project.read_plan.Goals as goal

abbrev same : model.Work → model.Work
same w = w

abbrev plan_next : Project → List ℕ → List ℕ → List ChipSource → List ℕ → Plan → Reading model.Work
plan_next project flash diagram chips wave plan = Is (λ (files : Files). Ok (planned project flash diagram chips plan wave))

pub returns-in_err-rows-clause-got : goal.returns-in_err-rows-clause-got
returns-in_err-rows-clause-got g c = λ flash drawing.
    let folder : List ℕ = c.args.paths.scripted.folder.now in
    let script : Option (List ℕ) = script_path c.args.paths.scripted in
    let wave : Option (List ℕ) = wave_path c.args.paths in
    let q = err_from_is_err_and c.from_residual.result c.from_residual.ensures.1 in
    let e = c.in_err-rows.field-0.0 in
    rw (q.1, q.2) (first_stops (ScriptIn script) (λ (rows : List ScriptRow). Then (WaveIn wave) (BehindScript folder script c.args.project.now flash (c.args.diagram.now, drawing) c.args.chips.now rows)) (outcome_of e) _ _ c.in_err-rows.ensures.got)

pub returns-in_err-wave-clause-got : goal.returns-in_err-wave-clause-got
returns-in_err-wave-clause-got g c = λ flash drawing.
    let folder : List ℕ = c.args.paths.scripted.folder.now in
    let script : Option (List ℕ) = script_path c.args.paths.scripted in
    let wave : Option (List ℕ) = wave_path c.args.paths in
    let rows : List ScriptRow = c.in_ok-rows.rows in
    let q = err_from_is_err_and c.from_residual-in_err-wave.result c.from_residual-in_err-wave.ensures.1 in
    let e = c.in_err-wave.field-0.0 in
    let Behind : List ScriptRow → List ℕ → Reading model.Work = BehindScript folder script c.args.project.now flash (c.args.diagram.now, drawing) c.args.chips.now in
    rw (q.1, q.2) (got_both (ScriptIn script) (λ (rows : List ScriptRow). Then (WaveIn wave) (Behind rows)) (steady_script script) rows same outcome_of (Err e) _ _ _ c.in_ok-rows.ensures.ports c.in_ok-rows.ensures.got
    (first_stops (WaveIn wave) (Behind rows) (outcome_of e) _ _ c.in_err-wave.ensures.got))

pub returns-in_err-plan-clause-got : goal.returns-in_err-plan-clause-got
returns-in_err-plan-clause-got g c = λ flash drawing.
    let b : Outside = g.B.Bench.outside c.read_wave_of.new.bench in
    let folder : List ℕ = c.args.paths.scripted.folder.now in
    let script : Option (List ℕ) = script_path c.args.paths.scripted in
    let wave : Option (List ℕ) = wave_path c.args.paths in
    let rows : List ScriptRow = c.in_ok-rows.rows in
    let bytes : List ℕ = c.in_ok-wave.wave.items in
    let q = err_from_is_err_and c.from_residual-in_err-plan.result c.from_residual-in_err-plan.ensures.1 in
    let e = c.in_err-plan.field-0.0 in
    let Plans : Reading Plan = PlanIn folder script c.args.project.now c.args.diagram.now c.args.chips.now rows in
    let Behind : List ScriptRow → List ℕ → Reading model.Work = BehindScript folder script c.args.project.now flash (c.args.diagram.now, drawing) c.args.chips.now in
    rw (q.1, q.2) (got_both (ScriptIn script) (λ (rows : List ScriptRow). Then (WaveIn wave) (Behind rows)) (steady_script script) rows same outcome_of (Err e) _ _ b c.in_ok-rows.ensures.ports c.in_ok-rows.ensures.got
    (got_both (WaveIn wave) (Behind rows) (steady_wave wave) bytes same outcome_of (Err e) _ b b c.in_ok-wave.ensures.ports c.in_ok-wave.ensures.got
    (first_stops Plans (plan_next c.args.project.now flash drawing c.args.chips.now bytes) (outcome_of e) b b (c.in_err-plan.ensures.got b))))

pub returns-clause-got : goal.returns-clause-got
returns-clause-got g c = λ flash drawing.
    let b : Outside = g.B.Bench.outside c.read_wave_of.new.bench in
    let folder : List ℕ = c.args.paths.scripted.folder.now in
    let script : Option (List ℕ) = script_path c.args.paths.scripted in
    let wave : Option (List ℕ) = wave_path c.args.paths in
    let rows : List ScriptRow = c.in_ok-rows.rows in
    let bytes : List ℕ = c.in_ok-wave.wave.items in
    let plan : Plan = c.in_ok-plan.plan in
    let work : model.Work = planned c.args.project.now flash drawing c.args.chips.now plan bytes in
    let Plans : Reading Plan = PlanIn folder script c.args.project.now c.args.diagram.now c.args.chips.now rows in
    let Behind : List ScriptRow → List ℕ → Reading model.Work = BehindScript folder script c.args.project.now flash (c.args.diagram.now, drawing) c.args.chips.now in
    got_both (ScriptIn script) (λ (rows : List ScriptRow). Then (WaveIn wave) (Behind rows)) (steady_script script) rows same outcome_of (Ok work) _ _ b c.in_ok-rows.ensures.ports c.in_ok-rows.ensures.got
    (got_both (WaveIn wave) (Behind rows) (steady_wave wave) bytes same outcome_of (Ok work) _ b b c.in_ok-wave.ensures.ports c.in_ok-wave.ensures.got
    (got_both Plans (plan_next c.args.project.now flash drawing c.args.chips.now bytes) (steady_rule _) plan same outcome_of (Ok work) b b b (same_here b) (c.in_ok-plan.ensures.got b) (if_always b.files _ (λ files. refl), refl)))

pub returns-clause-sound : goal.returns-clause-sound
returns-clause-sound g c = λ flash drawing. record {
  plan = c.in_ok-plan.ensures.plan;
  few_pins = c.requires.pins;
  each = c.requires.each;
  inputs = c.in_ok-plan.ensures.inputs;
  short = c.in_ok-wave.ensures.short;
}
