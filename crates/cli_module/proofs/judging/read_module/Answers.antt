use Rattle.std.proofs.Common.{ℕ, List, Err, subst}
use Rattle.sim_base.specs.declared.fault.Fault.{Fault}
use Rattle.sim_outcome_model.proofs.JudgeLemmas.{refused}
use Rattle.chip_module.specs.Binary.{Judges, IsReading}
use Rattle.sim_io.specs.Outcomes.{outcome_of}
use Rattle.cli_module.proofs.judging.read_module.Goals as goal

pub returns-in-Err-Refused-clause-got : goal.returns-in-Err-Refused-clause-got
returns-in-Err-Refused-clause-got g c =
    let bytes : List ℕ = c.in-Ok.bytes.items in
    refused c.args.name.now Judges bytes c.in-Err-Refused.refusal (outcome_of c.stopped.result) (g.B.Bench.outside c.args.bench.now) (g.B.Bench.outside c.read_bytes.new.bench) c.in-Ok.ensures.got.0
    (subst (λ (f : Fault). IsReading bytes (Err f)) c.in-Err-Refused.field-0-is c.in-Err-Refused.ensures) c.stopped.ensures
