use Rattle.std.proofs.Common.{Ok}
use Rattle.sim_outcome_model.proofs.ReadLemmas.{not_there, if_always}
use Rattle.sim_io.proofs.reading.read_within.Goals as goal

pub returns-in-Failed-clause-got : goal.returns-in-Failed-clause-got
returns-in-Failed-clause-got g c = (if_always (g.B.Bench.outside c.args.bench.now).files _ (λ files. not_there c.args.limit files c.args.name.now (λ bytes. Ok bytes)), c.in-Failed.ensures.cause.1)
