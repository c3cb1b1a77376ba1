use Rattle.cli_project.proofs.Common.{ℕ, List, Option, Bor, codes, arith, option_map, err_from_is_err_and, project_text, few_chips, in_folder, BehindProject}
use Rattle.cli_project.proofs.Common.{IsFile, first_stops, got_both, steady_file, outcome_of, script_path, work_of}
use Rattle.cli_project.proofs.project.read_work.Goals as goal

pub read_behind_project-requires : goal.read_behind_project-requires
read_behind_project-requires g c = let read = c.in_ok-project.ensures.read in omega (arith, few_chips read.0 c.in_ok-project.project read.1)

pub returns-in_err-project-clause-got : goal.returns-in_err-project-clause-got
returns-in_err-project-clause-got g c =
    let folder : List ℕ = c.args.scripted.folder.now in
    let script : Option (List ℕ) = script_path c.args.scripted in
    let wave : Option (List ℕ) = option_map (λ (s : Bor (List ℕ)). s.now) c.args.wave in
    let q = err_from_is_err_and c.from_residual.result c.from_residual.ensures.1 in
    let e = c.in_err-project.field-0.0 in
    rw (q.1, q.2) (first_stops (IsFile (in_folder folder (codes "wokwi.toml")) project_text) (BehindProject folder script wave) (outcome_of e) _ _ c.in_err-project.ensures.got)

pub returns-clause-got : goal.returns-clause-got
returns-clause-got g c =
    let folder : List ℕ = c.args.scripted.folder.now in
    let script : Option (List ℕ) = script_path c.args.scripted in
    let wave : Option (List ℕ) = option_map (λ (s : Bor (List ℕ)). s.now) c.args.wave in
    let file : List ℕ = in_folder folder (codes "wokwi.toml") in
    got_both (IsFile file project_text) (BehindProject folder script wave) (steady_file file project_text) c.in_ok-project.project work_of outcome_of
    c.read_behind_project.result _ _ _ c.in_ok-project.ensures.ports c.in_ok-project.ensures.got c.read_behind_project.ensures.got
