use Rattle.std.proofs.Common.{◌≡◌, ◌+◌, ◌-◌, ◌<◌, arith}
use Rattle.board_run.proofs.EngineLemmas.{showed_passed, showed_then, watches_on, none_sent, none_before, none_moved}
use Rattle.board_run.proofs.engine.Engine.next_event.Goals as goal

pub skip-requires : goal.skip-requires
skip-requires g c = record { within = omega (arith, c.requires.order); may = c.requires.may }

pub event-requires : goal.event-requires
event-requires g c =
    let e = c.args.self.now in
    let mid = c.skip.new.self in
    let steps = c.args.steps.now in
    let out = c.args.out.now in
    let passed = showed_passed g.P.Part g.met.P.Part.laws g.W.Watcher e mid steps out c.args.n c.requires.may c.requires.watches c.skip.ensures.next c.skip.ensures.rest c.requires.end in
    record {
      end = omega (arith, c.if-self-n.true, c.requires.end);
      may = passed.on.may;
      watches = watches_on g.P.Part g.met.P.Part.laws g.W.Watcher e mid steps steps out out passed;
    }

pub returns-then-self-n : goal.returns-then-self-n
returns-then-self-n g c =
    let e = c.args.self.now in
    let mid = c.skip.new.self in
    let steps = c.args.steps.now in
    let out = c.args.out.now in
    let next = c.skip.ensures.next in
    let passed = showed_passed g.P.Part g.met.P.Part.laws g.W.Watcher e mid steps out c.args.n c.requires.may c.requires.watches next c.skip.ensures.rest c.requires.end in
    let on = c.event.ensures in
    record {
      further = omega (arith, next.from, on.cycle);
      within = omega (arith, c.if-self-n.true, on.cycle);
      silent =
          let here : c.event.new.self.cycle - 1 ≡ mid.cycle = omega (arith, on.cycle) in
          rw here (none_sent g.P.Part g.met.P.Part.laws e c.args.n mid.cycle c.requires.may next c.requires.end);
      still =
          let here : c.event.new.self.cycle ≡ mid.cycle + 1 = on.cycle in
          rw here (none_moved g.P.Part g.met.P.Part.laws e c.args.n mid.cycle c.requires.may next c.requires.end);
      showed = showed_then g.P.Part g.met.P.Part.laws g.W.Watcher c.event.result e mid c.event.new.self steps steps c.event.new.steps out out c.event.new.out passed (omega (arith, on.cycle)) on.showed;
    }

pub returns-else-self-n : goal.returns-else-self-n
returns-else-self-n g c =
    let next = c.skip.ensures.next in
    record {
      further = omega (arith, c.requires.order, next.within, c.if-self-n.false);
      within = next.within;
      silent =
          let e = c.args.self.now in
          let u = c.skip.new.self.cycle in
          let further : e.cycle < u = omega (arith, c.requires.order, next.within, c.if-self-n.false) in
          none_before g.P.Part g.met.P.Part.laws e u further (none_sent g.P.Part g.met.P.Part.laws e c.args.n u c.requires.may next c.requires.end);
      still = λ t l. none_moved g.P.Part g.met.P.Part.laws c.args.self.now c.args.n c.skip.new.self.cycle c.requires.may next c.requires.end t (omega (arith, l));
      showed = showed_passed g.P.Part g.met.P.Part.laws g.W.Watcher c.args.self.now c.skip.new.self c.args.steps.now c.args.out.now c.args.n c.requires.may c.requires.watches next c.skip.ensures.rest c.requires.end;
    }
