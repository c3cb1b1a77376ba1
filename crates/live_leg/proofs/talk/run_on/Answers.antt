use Rattle.std.proofs.Common.{ℕ, ◌<◌, ◌≤◌, ◌∙◌, List, length, refl, sym, subst}
use Rattle.live_leg.specs.SentView.{most_sent}
use Rattle.live_leg.specs.Talks.{sent_by}
use Rattle.live_leg.proofs.CountLemmas.{not_full}
use Rattle.live_leg.proofs.GoneLemmas.{gone_more, short_more}
use Rattle.live_leg.proofs.talk.run_on.Given.{Over}
use Rattle.live_leg.proofs.talk.run_on.Goals.{After-advance}
use Rattle.live_leg.proofs.talk.run_on.Goals as goal

-- it has not come to its end before the cycle that it has reached
before : (g : Over) (c : After-advance g) → (u : ℕ) → c.args.talk.now.live.cycle ≤ u → u < c.advance.new.talk.live.cycle → length (sent_by g.P.Part c.args.talk.now.live c.args.talk.now.from u) < most_sent
before g c u late early =
    let l = c.loop-talk in
    let mid = l.talk in
    let gone = l.invariant.gone in
    let few : length mid.sent.bytes < most_sent = not_full (length mid.sent.bytes) (sym c.is_full.ensures ∙ c.if-not-is_full.true) in
    let short : length (sent_by g.P.Part mid.live c.args.talk.now.from mid.live.cycle) < most_sent =
    subst (λ (f : ℕ). length (sent_by g.P.Part mid.live f mid.live.cycle) < most_sent) gone.from (subst (λ (k : List ℕ). length k < most_sent) gone.talks.bytes few) in
    short_more g.P.Part c.args.talk.now.live mid.live c.args.talk.now.from c.advance.new.talk.live.cycle u gone.live l.invariant.before short c.advance.ensures.silent late early

pub loop-talk-preserved : goal.loop-talk-preserved
loop-talk-preserved g c =
    let outside = g.B.Bench.outside in
    let l = c.loop-talk in
    let e = c.advance.ensures in
    record {
      gone = gone_more g.P.Part c.args.talk.now l.talk c.advance.new.talk (outside c.args.start.now.value) (outside c.args.bench.now) (outside l.bench) (outside c.advance.new.bench)
          c.args.steps.now l.steps c.advance.new.steps l.invariant.gone (c.in-Ok.ensures.gone refl);
      within = e.within;
      before = before g (goal.at.loop-talk-preserved g c).After-advance;
      requests = e.requests ∙ l.invariant.requests;
    }

pub returns-in-Failed-clause-before : goal.returns-in-Failed-clause-before
returns-in-Failed-clause-before g c = before g (goal.at.returns-in-Failed-clause-before g c).After-advance
