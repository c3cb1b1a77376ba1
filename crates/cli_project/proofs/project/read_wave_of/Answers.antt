use Rattle.cli_project.proofs.Common.{Ok, IsFileWithin, named_stop, outcome_of, stop_of}
use Rattle.cli_project.proofs.project.read_wave_of.Goals as goal

pub returns-in-Err-clause-got : goal.returns-in-Err-clause-got
returns-in-Err-clause-got g c =
    rw c.in-Some.is (named_stop (IsFileWithin 16777216 c.in-Some.name.now (λ bytes. Ok bytes)) (stop_of c.in-Some.name.now c.in-Err.stop) (outcome_of c.stopped.result) _ _ c.in-Err.ensures.got c.stopped.ensures)
