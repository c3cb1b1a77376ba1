use Rattle.std.proofs.Common.{map, string_bytes}
use Rattle.cli_words_model.specs.Request.{request_of}
use Rattle.sim_io.specs.Outcomes.{outcome_of}
use Rattle.sim_outcome_model.proofs.WriteLemmas.{complains, complains_since}
use Rattle.sim_outcome_model.proofs.EndLemmas.{told}
use Rattle.sim_outcome_model.proofs.PromiseLemmas.{words_alone, answered, complete, holds_answer, stopped, true_stop, has_cause, holds_front, complains_alone, broken_off, is_status}
use Rattle.law_isolation.specs.Isolated.{Isolated}
use Rattle.sim_cli.specs.Answers.{Answers, AnswersSuch, RepeatAnswers, is_talk}
use Rattle.sim_cli.proofs.AnswerLemmas.{one, one_stop, counted, holds_play, holds_alone, holds_worlds, holds_shown}
use Rattle.sim_cli.proofs.simulation.simulate.Goals as goal

-- All follow from how the work ended, and from what was told of it after.
pub returns : goal.returns
returns g c =
    let asked = request_of (map string_bytes c.args.words.now) in
    let a = g.B.Bench.outside c.args.bench.now in
    let m = g.B.Bench.outside c.work-outcome.new.bench in
    let b = g.B.Bench.outside c.tell-end.new.bench in
    let o = outcome_of c.work-outcome.result in
    let quiet = c.tell-end.ensures.quiet in
    let others = c.tell-end.ensures.others in
    let happens = told (Answers a.requests) is_talk o asked a m b quiet c.work-outcome.ensures.happens others in
    let isolated = told (AnswersSuch Isolated a.requests) is_talk o asked a m b quiet c.work-outcome.ensures.isolated others in
    let repeats = told (RepeatAnswers a.requests) is_talk o asked a m b quiet c.work-outcome.ensures.repeated others in
    let complained = complains_since _ a m b c.work-outcome.ensures.silent (complains c.tell-end.result _ m b c.tell-end.ensures.wrote) in
    record {
      does = record { outcome = o; is_status = c.status.ensures; happens = happens; complains = complained };
      status = rw c.status.ensures (is_status o);
      words = rw c.status.ensures (words_alone (Answers a.requests) is_talk a b o asked happens);
      answered = rw c.status.ensures (answered (Answers a.requests) is_talk a b o asked happens);
      complete = rw c.status.ensures (complete (Answers a.requests) is_talk a b (one a.requests) o asked happens);
      holds = rw c.status.ensures (holds_answer (Answers a.requests) is_talk a b o asked happens);
      stopped = rw c.status.ensures (stopped (Answers a.requests) is_talk a b (one_stop a.requests) o asked happens complained);
      true_stop = rw c.status.ensures (true_stop (Answers a.requests) is_talk a b o asked happens);
      cause = rw c.status.ensures (has_cause (Answers a.requests) is_talk a b o asked happens);
      front = rw c.status.ensures (holds_front (Answers a.requests) is_talk a b o asked happens);
      steps = rw c.status.ensures (counted o asked a m c.args.steps.now c.work-outcome.new.steps c.work-outcome.ensures.happens c.work-outcome.ensures.counts);
      boardless = c.work-outcome.ensures.boardless;
      silent = rw c.status.ensures (complains_alone (Answers a.requests) is_talk a b o asked happens);
      broken_off = rw c.status.ensures (broken_off (Answers a.requests) is_talk a b o asked happens);
      played = rw c.status.ensures (holds_play a b o asked isolated);
      alone = rw c.status.ensures (holds_alone a b o asked isolated);
      worlds = rw c.status.ensures (holds_worlds a b o asked isolated);
      shown = rw c.status.ensures (holds_shown a b o asked isolated);
      repeated = rw c.status.ensures (holds_answer (RepeatAnswers a.requests) is_talk a b o asked repeats, true_stop (RepeatAnswers a.requests) is_talk a b o asked repeats);
    }
