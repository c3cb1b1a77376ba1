use Rattle.cli_project.proofs.Common.{ℕ, List, Option, Ok, refl, Outside, Files, Reading, Is, IsFile, if_always, first_stops, got_both, steady_file}
use Rattle.cli_project.proofs.Common.{pins_and_display, Binary, ChipSource, in_folder, outcome_of}
use Rattle.sim_base.specs.Display.{DisplaySize}
use Rattle.chip_json.proofs.DisplayLemmas.{few_found}
use Rattle.cli_project.proofs.chips.read_behind_binary.Goals as goal

abbrev Found : Type 0
Found = List (Option (List ℕ)) × Option DisplaySize

abbrev source_next : Binary → Found → Reading ChipSource
source_next binary found = Is (λ (files : Files). Ok (record { binary = binary; pins = found.0; display = found.1 }))

pub returns-in-Err-clause-got : goal.returns-in-Err-clause-got
returns-in-Err-clause-got g c =
    first_stops (IsFile (in_folder c.args.folder.now c.args.path.now) pins_and_display) (source_next c.args.binary) (outcome_of c.in-Err.end) _ _ c.in-Err.ensures.got

pub returns-in-Ok-clause-got : goal.returns-in-Ok-clause-got
returns-in-Ok-clause-got g c =
    let b : Outside = g.B.Bench.outside c.read_in.new.bench in
    let file = in_folder c.args.folder.now c.args.path.now in
    let source : ChipSource = record { binary = c.args.binary; pins = c.in-Ok.found.0; display = c.in-Ok.found.1 } in
    got_both (IsFile file pins_and_display) (source_next c.args.binary) (steady_file file pins_and_display) c.in-Ok.found (λ (s : ChipSource). s) outcome_of (Ok source) _ b b c.in-Ok.ensures.ports c.in-Ok.ensures.got
    (if_always b.files _ (λ files. refl), refl)

pub returns-in-Ok-clause-few : goal.returns-in-Ok-clause-few
returns-in-Ok-clause-few g c = let read = c.in-Ok.ensures.read in few_found read.0 c.in-Ok.found read.1
