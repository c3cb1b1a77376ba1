use Rattle.std.proofs.Common.{List, ℕ}
use Rattle.std.specs.Option.{option_map}
use Rattle.std.specs.Borrow.{Bor}
use Rattle.sim_outcome_model.proofs.ReadLemmas.{named_stop}
use Rattle.sim_io.specs.Outcomes.{outcome_of, stop_of}
use Rattle.cli_decode.specs.Answer.{LevelsIn}
use Rattle.cli_decode.proofs.decoding.read_wave_lines.Goals as goal

pub returns-in-Err-clause-got : goal.returns-in-Err-clause-got
returns-in-Err-clause-got g c =
    named_stop (LevelsIn c.args.wave.now c.args.first.now (option_map (λ (s : Bor (List ℕ)). s.now) c.args.second)) (stop_of c.args.wave.now c.in-Err.stop) (outcome_of c.stopped.result) _ _ c.in-Err.ensures.got c.stopped.ensures
