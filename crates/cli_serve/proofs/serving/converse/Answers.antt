use Rattle.std.proofs.Common.{◌≡◌, ◌<◌, [], ◌++◌, refl, arith}
use Rattle.sim_base.specs.Outside.{Outside}
use Rattle.live_model.specs.Talk.{greeting}
use Rattle.cli_serve.specs.Answer.{most_requests}
use Rattle.cli_serve.proofs.GoingLemmas.{going_begun, going_more, going_ends, going_full, greeting_broke}
use Rattle.cli_serve.proofs.serving.converse.Goals as goal

pub returns-in-Failed-clause-conversed : goal.returns-in-Failed-clause-conversed
returns-in-Failed-clause-conversed g c = λ b s at.
    let a : Outside = g.B.Bench.outside c.args.start.now.value in
    greeting_broke g.T.Talker.IsAt b a s (λ live s said m at. g.met.T.Talker.at_front b live s said a m at) (g.B.Bench.outside c.args.bench.now) (g.B.Bench.outside c.greet.new.bench) (c.in-Failed.ensures.failed refl b s [] at)

pub loop-init : goal.loop-init
loop-init g c = record {
  may =
      let a : Outside = g.B.Bench.outside c.args.start.now.value in
      let x = g.met.T.Talker.at_any c.args.live.now a (g.B.Bench.outside c.args.bench.now) c.requires.may in
      g.met.T.Talker.at_may x.0 c.greet.new.self x.1 (x.2 ++ greeting) a (g.B.Bench.outside c.greet.new.bench) (c.in-Ok.ensures.ok refl x.0 x.1 x.2 x.3);
  going = λ b s at.
      going_begun g.T.Talker.IsAt b (g.B.Bench.outside c.args.start.now.value) s c.greet.new.self (g.B.Bench.outside c.args.bench.now) (g.B.Bench.outside c.greet.new.bench) c.args.steps.now c.in-Ok.ensures.requests (c.in-Ok.ensures.ok refl b s [] at);
}

pub returns-in-Some-clause-may : goal.returns-in-Some-clause-may
returns-in-Some-clause-may g c = λ e. c.in-Some.ensures.may (rw e refl)

pub returns-in-Some-clause-conversed : goal.returns-in-Some-clause-conversed
returns-in-Some-clause-conversed g c = λ b s at.
    let a : Outside = g.B.Bench.outside c.args.start.now.value in
    let going = c.loop.invariant.going b s at in
    let few : c.loop.counter < most_requests = c.loop-test.true in
    going_ends g.T.Talker.IsAt b a s (λ live s said m at. g.met.T.Talker.at_front b live s said a m at) c.loop.live c.one_request.new.live (g.B.Bench.outside c.args.bench.now) (g.B.Bench.outside c.loop.bench) (g.B.Bench.outside c.one_request.new.bench)
    c.args.steps.now c.loop.steps c.one_request.new.steps c.loop.counter going few c.in-Some.ended (c.in-Some.ensures.asks b going.s (greeting ++ going.said) going.at)

pub loop-preserved : goal.loop-preserved
loop-preserved g c = record {
  may = c.in-None.ensures.may refl;
  going = λ b s at.
      let going = c.loop.invariant.going b s at in
      going_more g.T.Talker.IsAt b (g.B.Bench.outside c.args.start.now.value) s c.loop.live c.one_request.new.live (g.B.Bench.outside c.args.bench.now) (g.B.Bench.outside c.loop.bench) (g.B.Bench.outside c.one_request.new.bench)
      c.args.steps.now c.loop.steps c.one_request.new.steps c.loop.counter going (c.in-None.ensures.asks b going.s (greeting ++ going.said) going.at);
}

pub returns-clause-conversed : goal.returns-clause-conversed
returns-clause-conversed g c = λ b s at.
    let full : c.loop.counter ≡ most_requests = omega (arith, c.loop-test.false, c.loop.auto.counter-end) in
    going_full g.T.Talker.IsAt b (g.B.Bench.outside c.args.start.now.value) s c.loop.live (g.B.Bench.outside c.args.bench.now) (g.B.Bench.outside c.loop.bench) c.args.steps.now c.loop.steps c.loop.counter (c.loop.invariant.going b s at) full
