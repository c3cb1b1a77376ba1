use Rattle.std.proofs.Common.{◌≡◌, ◌-◌, map}
use Rattle.live_talk.specs.Waiting.{wait_of}
use Rattle.live_talk.proofs.StepLemmas.{Come}
use Rattle.live_talk.proofs.legs.leg.Given as goal

abbrev pub invariant-loop-talk : goal.invariant-loop-talk
invariant-loop-talk g l = record {
  come : Come g.P.Part l.until (map wait_of l.waits) l.fn.talk (g.B.Bench.outside l.start.value) (g.B.Bench.outside l.fn.bench) l.fn.steps
      l.talk l.probe l.number (g.B.Bench.outside l.bench) l.steps;
  wiring : l.probe.wiring ≡ l.fn.probe.wiring;
  requests : (g.B.Bench.outside l.bench).requests ≡ (g.B.Bench.outside l.fn.bench).requests;
}

abbrev pub decreases-loop-talk : goal.decreases-loop-talk
decreases-loop-talk g l = l.until - l.talk.live.cycle
