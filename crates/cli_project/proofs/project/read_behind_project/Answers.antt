use Rattle.cli_project.proofs.Common.{ℕ, List, hex_image, in_folder, BehindFirmware, IsFile, first_stops, got_both, steady_file, outcome_of, script_path}
use Rattle.cli_project.proofs.Common.{wave_path, work_of}
use Rattle.cli_project.proofs.project.read_behind_project.Goals as goal

pub returns-in-Err-clause-got : goal.returns-in-Err-clause-got
returns-in-Err-clause-got g c =
    let file : List ℕ = in_folder c.args.paths.scripted.folder.now c.args.project.firmware in
    let next = BehindFirmware c.args.paths.scripted.folder.now (script_path c.args.paths.scripted) (wave_path c.args.paths) c.args.project in
    first_stops (IsFile file hex_image) next (outcome_of c.in-Err.end) _ _ (rw c.as_str.ensures at c.in-Err.ensures.got)

pub returns-in-Ok-clause-got : goal.returns-in-Ok-clause-got
returns-in-Ok-clause-got g c =
    let file : List ℕ = in_folder c.args.paths.scripted.folder.now c.args.project.firmware in
    let next = BehindFirmware c.args.paths.scripted.folder.now (script_path c.args.paths.scripted) (wave_path c.args.paths) c.args.project in
    got_both (IsFile file hex_image) next (steady_file file hex_image) c.in-Ok.flash work_of outcome_of
    c.read_behind_firmware.result _ _ _ c.in-Ok.ensures.ports (rw c.as_str.ensures at c.in-Ok.ensures.got) c.read_behind_firmware.ensures.got
