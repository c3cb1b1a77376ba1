use Rattle.cli_project.proofs.Common.{ℕ, List, [], first_stops, got_both, ChipsAfter, BehindChips, outcome_of, script_path, wave_path, work_of}
use Rattle.cli_project.proofs.ProjectLemmas.{steady_chips}
use Rattle.cli_project.proofs.project.read_behind_diagram.Goals as goal

pub returns-in-Err-clause-got : goal.returns-in-Err-clause-got
returns-in-Err-clause-got g c =
    let folder : List ℕ = c.args.paths.scripted.folder.now in
    let next = BehindChips folder (script_path c.args.paths.scripted) (wave_path c.args.paths) c.args.project c.args.flash c.args.drawn in
    first_stops (ChipsAfter folder [] c.args.project.chips) next (outcome_of c.in-Err.end) _ _ (rw c.as_slice.ensures at c.in-Err.ensures.got)

pub returns-in-Ok-clause-got : goal.returns-in-Ok-clause-got
returns-in-Ok-clause-got g c =
    let folder : List ℕ = c.args.paths.scripted.folder.now in
    let next = BehindChips folder (script_path c.args.paths.scripted) (wave_path c.args.paths) c.args.project c.args.flash c.args.drawn in
    got_both (ChipsAfter folder [] c.args.project.chips) next (steady_chips folder [] c.args.project.chips) c.in-Ok.chips work_of outcome_of
    c.read_behind_chips.result _ _ _ c.in-Ok.ensures.ports (rw c.as_slice.ensures at c.in-Ok.ensures.got) c.read_behind_chips.ensures.got
