use Rattle.std.proofs.Common.{ℕ, List, Ok, IfSome, codes}
use Rattle.sim_outcome_model.specs.Stop.{accepted, printed}
use Rattle.sim_outcome_model.proofs.EndLemmas.{alone_ran}
use Rattle.sim_io.specs.Outcomes.{outcome_of}
use Rattle.cli_module.specs.Answer.{ModuleAnswer}
use Rattle.cli_module.proofs.AnswerLemmas.{module_answer, module_stops}
use Rattle.cli_module.proofs.judging.check_module.Goals as goal

pub returns-in-Ok-clause-ends : goal.returns-in-Ok-clause-ends
returns-in-Ok-clause-ends g c =
    let a = g.B.Bench.outside c.args.bench.now in
    let name : List ℕ = c.args.name.now in
    let is : IfSome a.files (λ files. ModuleAnswer name files (Ok accepted)) =
    module_answer name a.files c.in-Ok.field-0 c.in-Ok.ensures.got.0 in
    alone_ran (ModuleAnswer name) a (g.B.Bench.outside c.read_module.new.bench) (g.B.Bench.outside c.write_text.new.bench) c.in-Ok.ensures.got.1 c.in-Ok.ensures.ports (outcome_of c.write_text.result) (printed (codes "accepted\n")) is c.write_text.ensures.ran c.write_text.ensures.others

pub returns-clause-ends : goal.returns-clause-ends
returns-clause-ends g c = module_stops c.args.name.now (outcome_of c.in-Err.outcome) _ _ c.in-Err.ensures.got c.in-Err.ensures.ports
