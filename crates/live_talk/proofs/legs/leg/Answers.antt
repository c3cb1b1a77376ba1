use Rattle.std.proofs.Common.{◌≡◌, ◌∙◌, ◌+◌, ◌<◌, ◌≤◌, ℕ, Bool, true, false, map, refl, ap, sym, arith, length}
use Rattle.std.specs.Prelude.{◌==◌, ◌&&◌, nat_lt, nat_le, not}
use Rattle.live_leg.specs.declared.talk.Talk.{Talk}
use Rattle.live_model.specs.Leg.{most_sent}
use Rattle.live_talk.specs.Waiting.{wait_of}
use Rattle.live_talk.specs.Legs.{Looked}
use Rattle.live_talk.proofs.StepLemmas.{Going, rest, goes_on, begins, none_first, come, none_in, on, over, broken}
use Rattle.live_talk.proofs.legs.leg.Goals as goal

-- what the test says of the conversation
tested : (number t until cycle : ℕ) (kept : ℕ) (full answer : Bool) (b : Bool) → cycle ≡ t → full ≡ nat_le most_sent kept → answer ≡ (number == 0 && (nat_lt cycle until && not full)) → answer ≡ b →
    (number == 0 && (nat_lt t until && not (nat_le most_sent kept))) ≡ b
tested number t until cycle kept full answer b at filled is e = rw (← at, ← filled) (sym is ∙ e)

pub returns-in_err-number-clause-broke : goal.returns-in_err-number-clause-broke
returns-in_err-number-clause-broke g c = λ _.
    let outside = g.B.Bench.outside in
    let old = c.args.talk.now in
    let ws = map wait_of c.args.waits.now in
    let talk = c.begin_leg.new.talk in
    let a = outside c.args.start.now.value in
    let b = outside c.args.bench.now in
    let at : talk.live.cycle ≡ old.live.cycle = ap (λ (t : Talk _). t.live.cycle) c.begin_leg.ensures.new in
    let order = c.requires.order in
    let first = c.cycle-first.ensures.value in
    let short = c.step.ensures.within in
    let looked : Looked g.P.Part talk.live c.look.new.self = record {
      wiring = c.look.ensures.wiring ∙ c.requires.wiring ∙ sym (ap (λ (t : Talk _). t.live.wiring) c.begin_leg.ensures.new);
      levels = c.look.ensures.levels;
      drives = c.look.ensures.drives;
    } in
    let going = begins g.P.Part c.args.until ws old a b c.args.steps.now talk c.look.new.self _ c.begin_leg.ensures.new (c.begin_leg.ensures.talks a b c.requires.talks) (omega (arith, order)) looked in
    broken g.P.Part c.args.until ws old a b c.args.steps.now talk c.step.new.talk c.look.new.self b (outside c.step.new.bench) c.args.steps.now going
    c.step.ensures.further (omega (arith, short, first, at, order)) (none_first g.P.Part c.args.until ws old a b c.args.steps.now talk.live.cycle c.step.new.talk.live.cycle (omega (arith, short, first)))
    (ap (rest g.P.Part c.args.until ws old a b c.args.steps.now) (sym at)) (c.in_err-number.ensures.broke refl)

pub loop-talk-init : goal.loop-talk-init
loop-talk-init g c =
    let outside = g.B.Bench.outside in
    let old = c.args.talk.now in
    let ws = map wait_of c.args.waits.now in
    let talk = c.begin_leg.new.talk in
    let a = outside c.args.start.now.value in
    let b = outside c.args.bench.now in
    let at : talk.live.cycle ≡ old.live.cycle = ap (λ (t : Talk _). t.live.cycle) c.begin_leg.ensures.new in
    let order = c.requires.order in
    let first = c.cycle-first.ensures.value in
    let short = c.step.ensures.within in
    let looked : Looked g.P.Part talk.live c.look.new.self = record {
      wiring = c.look.ensures.wiring ∙ c.requires.wiring ∙ sym (ap (λ (t : Talk _). t.live.wiring) c.begin_leg.ensures.new);
      levels = c.look.ensures.levels;
      drives = c.look.ensures.drives;
    } in
    let going = begins g.P.Part c.args.until ws old a b c.args.steps.now talk c.look.new.self _ c.begin_leg.ensures.new (c.begin_leg.ensures.talks a b c.requires.talks) (omega (arith, order)) looked in
    let e = c.in_ok-number.ensures in
    record {
      come = come g.P.Part c.args.until ws old a b c.args.steps.now talk c.step.new.talk c.look.new.self c.step.new.probe c.in_ok-number.number b (outside c.step.new.bench) c.args.steps.now c.step.new.steps going
          c.step.ensures.further (omega (arith, short, first, at, order)) (e.gone _ refl) (e.looked _ refl) (e.ok _ refl)
          (none_first g.P.Part c.args.until ws old a b c.args.steps.now talk.live.cycle c.step.new.talk.live.cycle (omega (arith, short, first)))
          (ap (rest g.P.Part c.args.until ws old a b c.args.steps.now) (sym at));
      wiring = c.step.ensures.wiring ∙ c.look.ensures.wiring;
      requests = c.step.ensures.requests;
    }

pub returns-in_err-number-2-clause-broke : goal.returns-in_err-number-2-clause-broke
returns-in_err-number-2-clause-broke g c = λ _.
    let outside = g.B.Bench.outside in
    let old = c.args.talk.now in
    let ws = map wait_of c.args.waits.now in
    let l = c.loop-talk in
    let a = outside c.args.start.now.value in
    let b = outside c.args.bench.now in
    let here = l.invariant.come in
    let test = tested l.number l.talk.live.cycle c.args.until c.cycle.result (length l.talk.sent.bytes) c.is_full.result c.goes_on.result true c.cycle.ensures.value c.is_full.ensures c.goes_on.ensures c.loop-talk-test.true in
    let goes = on g.P.Part c.args.until ws old a b c.args.steps.now l.talk l.probe l.number (outside l.bench) l.steps here test in
    let step = c.step-in-loop-talk in
    broken g.P.Part c.args.until ws old a b c.args.steps.now l.talk step.new.talk l.probe (outside l.bench) (outside step.new.bench) l.steps here.going
    step.ensures.further step.ensures.within (none_in g.P.Part c.args.until ws old a b c.args.steps.now l.talk step.new.talk.live.cycle here.going.live step.ensures.stepped goes.0)
    goes.3 (c.in_err-number-2.ensures.broke refl)

pub loop-talk-preserved : goal.loop-talk-preserved
loop-talk-preserved g c =
    let outside = g.B.Bench.outside in
    let old = c.args.talk.now in
    let ws = map wait_of c.args.waits.now in
    let l = c.loop-talk in
    let a = outside c.args.start.now.value in
    let b = outside c.args.bench.now in
    let here = l.invariant.come in
    let test = tested l.number l.talk.live.cycle c.args.until c.cycle.result (length l.talk.sent.bytes) c.is_full.result c.goes_on.result true c.cycle.ensures.value c.is_full.ensures c.goes_on.ensures c.loop-talk-test.true in
    let goes = on g.P.Part c.args.until ws old a b c.args.steps.now l.talk l.probe l.number (outside l.bench) l.steps here test in
    let step = c.step-in-loop-talk in
    let e = c.in_ok-number-2.ensures in
    record {
      come = come g.P.Part c.args.until ws old a b c.args.steps.now l.talk step.new.talk l.probe step.new.probe c.in_ok-number-2.number (outside l.bench) (outside step.new.bench) l.steps step.new.steps here.going
          step.ensures.further step.ensures.within (e.gone _ refl) (e.looked _ refl) (e.ok _ refl)
          (none_in g.P.Part c.args.until ws old a b c.args.steps.now l.talk step.new.talk.live.cycle here.going.live step.ensures.stepped goes.0) goes.3;
      wiring = step.ensures.wiring ∙ l.invariant.wiring;
      requests = step.ensures.requests ∙ l.invariant.requests;
    }

pub returns-clause-ran : goal.returns-clause-ran
returns-clause-ran g c = λ number e.
    let outside = g.B.Bench.outside in
    let old = c.args.talk.now in
    let ws = map wait_of c.args.waits.now in
    let l = c.loop-talk in
    let a = outside c.args.start.now.value in
    let b = outside c.args.bench.now in
    let n : number ≡ l.number = cc in
    let test = tested l.number l.talk.live.cycle c.args.until c.cycle.result (length l.talk.sent.bytes) c.is_full.result c.goes_on.result false c.cycle.ensures.value c.is_full.ensures c.goes_on.ensures c.loop-talk-test.false in
    rw n (over g.P.Part c.args.until ws old a b c.args.steps.now l.talk l.probe l.number (outside l.bench) l.steps l.invariant.come test)
