use Rattle.cli_project.proofs.Common.{ℕ, List, few_parts, IsFile, first_stops, got_both, steady_file, diagram_name, drawn, BehindDiagram, outcome_of}
use Rattle.cli_project.proofs.Common.{script_path, wave_path, work_of}
use Rattle.cli_project.proofs.ProjectLemmas.{drawn_is}
use Rattle.cli_project.proofs.project.read_behind_firmware.Goals as goal

pub read_behind_diagram-requires-clause-parts : goal.read_behind_diagram-requires-clause-parts
read_behind_diagram-requires-clause-parts g c = let read = c.in-Ok.ensures.read in few_parts read.0 c.in-Ok.drawn.0 (drawn_is read.0 c.in-Ok.drawn read.1)

pub returns-in-Err-clause-got : goal.returns-in-Err-clause-got
returns-in-Err-clause-got g c =
    let next = BehindDiagram c.args.paths.scripted.folder.now (script_path c.args.paths.scripted) (wave_path c.args.paths) c.args.project c.args.flash in
    first_stops (IsFile (diagram_name c.args.paths.scripted.folder.now) drawn) next (outcome_of c.in-Err.end) _ _ c.in-Err.ensures.got

pub returns-in-Ok-clause-got : goal.returns-in-Ok-clause-got
returns-in-Ok-clause-got g c =
    let folder : List ℕ = c.args.paths.scripted.folder.now in
    let next = BehindDiagram folder (script_path c.args.paths.scripted) (wave_path c.args.paths) c.args.project c.args.flash in
    got_both (IsFile (diagram_name folder) drawn) next (steady_file (diagram_name folder) drawn) c.in-Ok.drawn work_of outcome_of
    c.read_behind_diagram.result _ _ _ c.in-Ok.ensures.ports c.in-Ok.ensures.got c.read_behind_diagram.ensures.got
