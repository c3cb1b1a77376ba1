use Rattle.board_run.proofs.Common.{◌≡◌, ◌-◌, ◌<◌, [], subst, sym, arith, MayRun, MayStretch, Watches, Showed, StaysSame, Engine, bytes_to, states_of, wiring_of}
use Rattle.board_run.proofs.LegLemmas.{steady_stays}
use Rattle.board_run.proofs.engine.Engine.advance.Goals as goal

pub stretch-requires : goal.stretch-requires
stretch-requires g c =
    let found = c.find_alone.ensures.alone (c.in-Some.who, c.in-Some.limit) c.in-Some.is in
    let same = sym c.find_alone.ensures.same in
    record {
      end = omega (arith, found.within, c.requires.end);
      may = subst (λ (e : Engine g.row.P.Denot). MayRun g.P.Part e) same c.requires.may;
      alone = subst (λ (e : Engine g.row.P.Denot). MayStretch e c.in-Some.who c.in-Some.limit c.in-Some.limit) same (record { fresh = found.fresh; after = found.after; within = omega arith; alone = found.alone });
      watches = subst (λ (e : Engine g.row.P.Denot). Watches g.W.Watcher e c.args.out.now) same c.requires.watches;
    }

pub returns-in-Some : goal.returns-in-Some
returns-in-Some g c =
    let new = c.stretch.new in
    let e = c.stretch.ensures in
    record {
      further = subst (λ (e : Engine g.row.P.Denot). e.cycle < new.self.cycle) c.find_alone.ensures.same e.further;
      silent = subst (λ (e : Engine g.row.P.Denot). bytes_to g.P.Part e (new.self.cycle - 1) ≡ []) c.find_alone.ensures.same e.silent;
      still = subst (λ (e : Engine g.row.P.Denot). StaysSame g.P.Part.machine (wiring_of e) e.inputs (states_of g.P.Part e) e.cycle (new.self.cycle - e.cycle)) c.find_alone.ensures.same
          (steady_stays g.P.Part.machine g.met.P.Part.laws _ _ _ _ _ e.steady);
      within = omega (arith, e.within, (c.find_alone.ensures.alone (c.in-Some.who, c.in-Some.limit) c.in-Some.is).within);
      showed = subst (λ (e : Engine g.row.P.Denot). Showed g.P.Part g.W.Watcher c.stretch.result e new.self c.args.steps.now new.steps c.args.out.now new.out) c.find_alone.ensures.same e.showed;
    }

pub next_event-requires : goal.next_event-requires
next_event-requires g c =
    let same = sym c.find_alone.ensures.same in
    record {
      order = subst (λ (e : Engine g.row.P.Denot). e.cycle < c.args.n) same c.requires.order;
      end = c.requires.end;
      may = subst (λ (e : Engine g.row.P.Denot). MayRun g.P.Part e) same c.requires.may;
      watches = subst (λ (e : Engine g.row.P.Denot). Watches g.W.Watcher e c.args.out.now) same c.requires.watches;
    }

pub returns-in-None : goal.returns-in-None
returns-in-None g c =
    let new = c.next_event.new in
    let e = c.next_event.ensures in
    record {
      further = subst (λ (e : Engine g.row.P.Denot). e.cycle < new.self.cycle) c.find_alone.ensures.same e.further;
      within = e.within;
      still = subst (λ (e : Engine g.row.P.Denot). StaysSame g.P.Part.machine (wiring_of e) e.inputs (states_of g.P.Part e) e.cycle (new.self.cycle - e.cycle)) c.find_alone.ensures.same e.still;
      silent = subst (λ (e : Engine g.row.P.Denot). bytes_to g.P.Part e (new.self.cycle - 1) ≡ []) c.find_alone.ensures.same e.silent;
      showed = subst (λ (e : Engine g.row.P.Denot). Showed g.P.Part g.W.Watcher c.next_event.result e new.self c.args.steps.now new.steps c.args.out.now new.out) c.find_alone.ensures.same e.showed;
    }
