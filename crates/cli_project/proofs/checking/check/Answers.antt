use Rattle.cli_project.proofs.Common.{ℕ, List, Ok, IfSome, codes, accepted, printed, alone_ran, outcome_of, work_of}
use Rattle.cli_project.specs.Answer.{CheckAnswer}
use Rattle.cli_project.proofs.ProjectLemmas.{check_answer, check_stops}
use Rattle.cli_project.proofs.checking.check.Goals as goal

pub returns-in-Ok-clause-ends : goal.returns-in-Ok-clause-ends
returns-in-Ok-clause-ends g c =
    let a = g.B.Bench.outside c.args.bench.now in
    let folder : List ℕ = c.args.folder.now in
    let is : IfSome a.files (λ files. CheckAnswer folder files (Ok accepted)) =
    check_answer folder a.files (work_of c.in-Ok.work) c.in-Ok.ensures.got.0 in
    alone_ran (CheckAnswer folder) a (g.B.Bench.outside c.read_folder.new.bench) (g.B.Bench.outside c.write_text.new.bench) c.in-Ok.ensures.got.1 c.in-Ok.ensures.ports (outcome_of c.write_text.result) (printed (codes "accepted\n")) is c.write_text.ensures.ran c.write_text.ensures.others

pub returns-in-Err-clause-ends : goal.returns-in-Err-clause-ends
returns-in-Err-clause-ends g c = check_stops c.args.folder.now (outcome_of c.in-Err.outcome) _ _ c.in-Err.ensures.got c.in-Err.ensures.ports
