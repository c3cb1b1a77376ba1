use Rattle.std.proofs.Common.{ℕ, List, Err, refl, subst}
use Rattle.sim_base.specs.declared.fault.Fault.{Fault}
use Rattle.sim_outcome_model.specs.Stop.{Refused}
use Rattle.sim_outcome_model.specs.Outcome.{Stopped}
use Rattle.sim_outcome_model.proofs.ReadLemmas.{if_always, named_stop}
use Rattle.board_make.specs.Board.{chip_file}
use Rattle.chip_module.specs.Binary.{IsReading}
use Rattle.project_model.specs.Work.{in_folder}
use Rattle.sim_io.specs.Outcomes.{outcome_of}
use Rattle.cli_make.specs.Answer.{JudgedBytes, folder}
use Rattle.cli_make.proofs.project.judged.Goals as goal

pub returns-in-Ok : goal.returns-in-Ok
returns-in-Ok c = λ a. (if_always a.files _ (λ files. c.in-Ok.ensures), refl)

pub returns-in-Err-Refused : goal.returns-in-Err-Refused
returns-in-Err-Refused c = λ a.
    let name : List ℕ = in_folder folder chip_file.binary in
    let bytes : List ℕ = c.args.bytes.items in
    named_stop (JudgedBytes name bytes) (Stopped (Refused name c.in-Err-Refused.refusal)) (outcome_of c.stopped.result) a a
    (if_always a.files _ (λ files. (refl, subst (λ (f : Fault). IsReading bytes (Err f)) c.in-Err-Refused.field-0-is c.in-Err-Refused.ensures)))
    c.stopped.ensures
