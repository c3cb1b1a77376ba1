use Rattle.sim_outcome_model.specs.Work.{IsFile}
use Rattle.sim_outcome_model.proofs.ReadLemmas.{named_stop}
use Rattle.sim_io.specs.Outcomes.{outcome_of, stop_of}
use Rattle.sim_io.proofs.reading.read_document.Goals as goal

pub returns-in-Err-clause-got : goal.returns-in-Err-clause-got
returns-in-Err-clause-got g c =
    named_stop (IsFile c.args.name.now g.D.Document.reading) (stop_of c.args.name.now c.in-Err.stop) (outcome_of c.stopped.result) _ _ c.in-Err.ensures.got c.stopped.ensures
