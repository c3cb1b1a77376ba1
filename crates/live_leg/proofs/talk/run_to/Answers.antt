use Rattle.std.proofs.Common.{◌≡◌, ◌∙◌, ℕ, ◌+◌, ◌≤◌, List, length, refl, ap, sym, subst, arith}
use Rattle.sim_base.specs.declared.limits.TheConstants.{MOST_CYCLES}
use Rattle.vcd_text.specs.Heads.{HeadState}
use Rattle.vcd_text.specs.Writers.{Tied, state_of, marked}
use Rattle.board_live.specs.LiveView.{LiveView, rows_by, wakes_by}
use Rattle.live_leg.specs.Legs.{LegTied}
use Rattle.live_leg.specs.SentView.{sent_room}
use Rattle.live_leg.specs.Talks.{writer_of, sent_by}
use Rattle.live_leg.proofs.CountLemmas.{fits_before}
use Rattle.live_leg.proofs.GoingLemmas.{going_as, leg_begins, leg_broke}
use Rattle.live_leg.proofs.LegLemmas.{whole_again, last_again, leg_went, leg_said, leg_tied}
use Rattle.live_leg.proofs.talk.run_to.Goals as goal

pub run_to-requires-clause-follows : goal.run_to-requires-clause-follows
run_to-requires-clause-follows g c =
    let outside = g.B.Bench.outside in
    let talk = c.args.talk.now in
    let s = talk.live in
    let may = c.requires.talks in
    let w = c.again-writer.result in
    let e = c.again-writer.ensures in
    let a = outside c.args.start.now.value in
    let b = outside c.args.bench.now in
    record {
      whole = whole_again outside w (writer_of talk) b e.state e.outside may.whole;
      stands = leg_begins g.P.Part s (writer_of talk) talk.sent talk.from a b may outside _ e.state (ap (λ (t : Tied). t.start) e.place) e.outside (ap outside c.of-begun.ensures) refl
          (subst (λ (l : List ℕ). length l ≤ sent_room) (sym may.bytes) (fits_before g.P.Part s talk.from s.cycle c.args.n c.requires.order c.requires.room));
      last = last_again outside w (writer_of talk) b e.state e.outside g.P.Part s may.last;
    }

pub returns-in-Done-clause-gone : goal.returns-in-Done-clause-gone
returns-in-Done-clause-gone g c = λ _.
    let outside = g.B.Bench.outside in
    let talk = c.args.talk.now in
    let s = talk.live in
    let may = c.requires.talks in
    let w = c.again-writer.result in
    let o = c.again-writer.ensures in
    let a = outside c.args.start.now.value in
    let b = outside c.args.bench.now in
    let e = c.run_to.ensures in
    let out = c.run_to.new.out in
    let new = c.run_to.new.self in
    let follows = c.in-Done.ensures.follows refl in
    let start = ap (λ (t : Tied). t.start) o.place in
    let found = ap outside c.of-begun.ensures in
    let place = ap (λ (t : LegTied). t.tied) e.place ∙ o.place in
    let final = c.bench-1.given.1 (sym (ap (λ (t : Tied). t.reference) place)) in
    let head = c.talk-1.given.1 (sym (ap (λ (t : Tied). t.keeps) place)) in
    let state = ap (λ (h : HeadState). marked h c.mark-talk.result) head ∙ c.mark-talk.ensures in
    let reached : new.cycle ≡ c.args.n = ap (λ (v : LiveView g.row.P.Denot). v.cycle) (c.in-Done.ensures.live refl) in
    let same : new ≡ record s { cycle = new.cycle } = c.in-Done.ensures.live refl ∙ ap (λ (t : ℕ). record s { cycle = t }) (sym reached) in
    let later : s.cycle ≤ new.cycle = subst (λ (t : ℕ). s.cycle ≤ t) (sym reached) c.requires.order in
    let end : new.cycle ≤ MOST_CYCLES = subst (λ (t : ℕ). t ≤ MOST_CYCLES) (sym reached) c.requires.end in
    let since : talk.from ≤ new.cycle = omega (arith, may.within, later) in
    record {
      later = later;
      live = same;
      from = refl;
      tied = leg_tied g.P.Part outside talk a b may w out new _ (outside c.of-begun.result.value) o.state start found e.place same _ state;
      talks = going_as g.P.Part new new _ (state_of out.writer) out.sent.now out.sent.now talk.from talk.from a (outside c.bench-1.given.0) a (outside out.writer.bench.now) refl state refl refl refl (ap outside final)
          (leg_went g.P.Part outside talk a b may w out new _ (outside c.of-begun.result.value) o.state start found e.place same end since follows.whole follows.stands follows.last
          (subst (λ (t : ℕ). length (sent_by g.P.Part s talk.from t) ≤ sent_room) (sym reached) c.requires.room));
      said = rw final (leg_said g.P.Part outside talk a b may w out new _ (outside c.of-begun.result.value) o.state start found e.place same follows.stands);
      steps_are = subst (λ (t : ℕ). c.run_to.new.steps + wakes_by g.P.Part s s.cycle ≡ c.args.steps.now + wakes_by g.P.Part s t) (sym reached) (c.in-Done.ensures.steps refl);
    }

pub returns-clause-broke : goal.returns-clause-broke
returns-clause-broke g c = λ _ said has.
    let outside = g.B.Bench.outside in
    let talk = c.args.talk.now in
    let s = talk.live in
    let may = c.requires.talks in
    let out = c.run_to.new.out in
    let e = c.run_to.ensures in
    let place = ap (λ (t : LegTied). t.tied) e.place ∙ c.again-writer.ensures.place in
    let final = c.bench-in-WriteFault-1.given.1 (sym (ap (λ (t : Tied). t.reference) place)) in
    let stopped = c.in-WriteFault.ensures.stopped refl in
    rw final (leg_broke outside out _ (outside c.args.start.now.value) (outside c.args.bench.now) stopped.front_rows stopped.are_fronts.more_rows (rows_by g.P.Part s c.args.n) stopped.front_bytes said place refl may.serial
    (ap (λ (t : LegTied). t.begun) e.place ∙ ap outside c.of-begun.ensures) stopped.are_fronts.whole_rows stopped.stopped has)
