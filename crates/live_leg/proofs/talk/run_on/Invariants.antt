use Rattle.std.proofs.Common.{◌≡◌, ℕ, ◌-◌, ◌<◌, ◌≤◌, length}
use Rattle.live_leg.specs.SentView.{most_sent}
use Rattle.live_leg.specs.Talks.{HasGone, sent_by}
use Rattle.live_leg.proofs.talk.run_on.Given as goal

abbrev pub invariant-loop-talk : goal.invariant-loop-talk
invariant-loop-talk g l = record {
  gone : HasGone g.P.Part l.fn.talk l.talk (g.B.Bench.outside l.start.value) (g.B.Bench.outside l.fn.bench) (g.B.Bench.outside l.bench) l.fn.steps l.steps;
  within : l.talk.live.cycle ≤ l.n;
  before : (u : ℕ) → l.fn.talk.live.cycle ≤ u → u < l.talk.live.cycle → length (sent_by g.P.Part l.fn.talk.live l.fn.talk.from u) < most_sent;
  requests : (g.B.Bench.outside l.bench).requests ≡ (g.B.Bench.outside l.fn.bench).requests;
}

abbrev pub decreases-loop-talk : goal.decreases-loop-talk
decreases-loop-talk g l = l.n - l.talk.live.cycle
