use Rattle.cli_project.proofs.Common.{ℕ, List, err_from_is_err_and, JudgedFile, first_stops, got_both, steady_judged, ChipFile, Judges, ChipSource, in_folder}
use Rattle.cli_project.proofs.Common.{PinsIn, outcome_of}
use Rattle.cli_project.proofs.chips.read_chip.Goals as goal

pub returns-in_err-binary-clause-got : goal.returns-in_err-binary-clause-got
returns-in_err-binary-clause-got g c =
    let folder : List ℕ = c.args.folder.now in
    let chip : ChipFile = c.args.chip.now in
    let q = err_from_is_err_and c.from_residual.result c.from_residual.ensures.1 in
    let e = c.in_err-binary.field-0.0 in
    rw (q.1, q.2) (first_stops (JudgedFile (in_folder folder chip.binary) Judges) (PinsIn folder chip.json) (outcome_of e) _ _ (rw c.as_str.ensures at c.in_err-binary.ensures.got))

pub returns-clause-got : goal.returns-clause-got
returns-clause-got g c =
    let folder : List ℕ = c.args.folder.now in
    let chip : ChipFile = c.args.chip.now in
    got_both (JudgedFile (in_folder folder chip.binary) Judges) (PinsIn folder chip.json) (steady_judged (in_folder folder chip.binary) Judges) c.in_ok-binary.binary (λ (s : ChipSource). s) outcome_of c.read_behind_binary.result _ _ _ c.in_ok-binary.ensures.ports
    (rw c.as_str.ensures at c.in_ok-binary.ensures.got) (rw c.as_str-2.ensures at c.read_behind_binary.ensures.got)
