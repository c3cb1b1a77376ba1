use Rattle.board_run.proofs.Common.{◌≡◌, ◌+◌, ◌≤◌, ◌∙◌, ap, sym, refl, arith, subst, List, length, Input, AreBehind, IsInOrder, retold, reread, kept_of}
use Rattle.board_run.proofs.Common.{MayTurnOn, TurnedOn, Showed, Engine, wiring_of}
use Rattle.sim_base.specs.declared.bench.WriteEnd.TheVariants as writes
use Rattle.board_run.proofs.HandLemmas.{handed_both, stopped_first, stopped_second}
use Rattle.board_run.proofs.EngineLemmas.{fails_first}
use Rattle.board_run.proofs.LagLemmas.{Happens, happens, lags_differ}
use Rattle.board_run.proofs.engine.Engine.event.Given.{Over}
use Rattle.board_run.proofs.engine.Engine.event.Goals.{After-turn-woken}
use Rattle.board_run.proofs.engine.Engine.event.Goals as goal

pub end_of_cycle-end-requires : goal.end_of_cycle-end-requires
end_of_cycle-end-requires g c =
    let new = c.show-shown.new.self in
    let rest = sym c.show-shown.ensures.rest in
    record {
      order = subst IsInOrder (sym c.as_slice.ensures) (subst (λ (x : Engine g.row.P.Denot). IsInOrder x.inputs) rest c.requires.may.order);
      behind = subst (λ (is : List Input). AreBehind is new.input new.cycle) (sym c.as_slice.ensures) (subst (λ (x : Engine g.row.P.Denot). AreBehind x.inputs x.input x.cycle) rest c.requires.may.behind);
    }

pub turn-woken-requires : goal.turn-woken-requires
turn-woken-requires g c =
    let p = g.P.Part in
    let e = c.args.self.now in
    let l = c.requires.may.lags in
    let s = c.show-shown.ensures in
    let reading = reread e.reading c.show-shown.new.self.reading in
    let differ = c.show-shown.result.1 in
    record {
      may = subst (λ (x : Engine g.row.P.Denot). MayTurnOn p x differ) (sym s.rest) (record {
        end = c.requires.end;
        few = l.few;
        may = l.may;
        valid = l.valid;
        dues_long = l.dues_long;
        answers_long = l.answers_long;
        silent = l.silent;
        fits = l.fits;
        suits = s.read.suits;
        told = record { drives_are = s.read.of.drives_are; closed_are = s.read.of.closed_are };
        differs = lags_differ p.machine g.met.P.Part.laws (wiring_of e) p.state p.now p.wakes e.cycle e.parts (kept_of e) reading differ l s.read.differs;
      });
      given_within = (c.end_of_cycle-end.ensures.from, (let most = c.end_of_cycle-end.ensures.behind.within in omega (arith, most, ap length c.as_slice.ensures)));
    }

-- the turn of the parts
turned : (g : Over) (c : After-turn-woken g) → TurnedOn g.P.Part (let e : Engine g.row.P.Denot = record c.args.self.now { reading = reread c.args.self.now.reading c.show-shown.new.self.reading } in e) c.turn-woken.new.self c.show-shown.result.1
    c.end_of_cycle-end.result c.turn-woken.result c.args.steps.now c.turn-woken.new.steps
turned g c =
    let w = c.turn-woken in
    subst (λ (x : Engine g.row.P.Denot). TurnedOn g.P.Part x w.new.self c.show-shown.result.1 c.end_of_cycle-end.result w.result c.args.steps.now w.new.steps) c.show-shown.ensures.rest w.ensures

-- the script's values of the cycle are passed over
passed : (g : Over) (c : After-turn-woken g) → AreBehind c.args.self.now.inputs c.end_of_cycle-end.result (c.args.self.now.cycle + 1)
passed g c = subst (λ (x : Engine g.row.P.Denot). AreBehind x.inputs c.end_of_cycle-end.result (x.cycle + 1)) c.show-shown.ensures.rest
    (subst (λ (is : List Input). AreBehind is c.end_of_cycle-end.result (c.show-shown.new.self.cycle + 1)) c.as_slice.ensures c.end_of_cycle-end.ensures.behind)

-- the cycle up to its bytes
cycle : (g : Over) (c : After-turn-woken g) → Happens g.P.Part.machine g.met.P.Part.laws (wiring_of c.args.self.now) g.P.Part.state g.P.Part.now g.P.Part.wakes c.args.self.now.inputs c.args.self.now.cycle
    c.args.self.now.parts c.turn-woken.new.self.parts c.args.self.now.reading
    (retold (reread c.args.self.now.reading c.show-shown.new.self.reading) c.turn-woken.new.self.reading.nets.drives c.turn-woken.new.self.reading.nets.closed) c.turn-woken.new.self.answers c.turn-woken.new.self.dues c.turn-woken.result.changed c.args.steps.now c.turn-woken.new.steps
cycle g c =
    let p = g.P.Part in
    let e = c.args.self.now in
    let s = c.show-shown.ensures.read in
    let end = c.end_of_cycle-end in
    let new = c.turn-woken.new.self in
    let t = turned g c in
    let from = subst (λ (x : Engine g.row.P.Denot). x.input ≤ end.result) c.show-shown.ensures.rest end.ensures.from in
    happens p.machine g.met.P.Part.laws (wiring_of e) p.state p.now p.wakes e.inputs e.cycle e.input end.result e.parts new.parts (kept_of e) (reread e.reading c.show-shown.new.self.reading) new.reading.nets c.show-shown.result.1
    new.answers new.dues c.turn-woken.result.changed c.args.steps.now c.turn-woken.new.steps c.requires.may.lags s.differs from c.requires.may.behind
    (passed g c) s.of s.suits t.long t.answers_long t.dues_long (t.turns e.inputs) (t.counted e.inputs) t.due t.told

pub hand_sent-requires : goal.hand_sent-requires
hand_sent-requires g c = record { whole = (c.show-shown.ensures.ok c.in-Ok.is).is_whole; silent = c.turn-woken.ensures.silent }

pub returns-in-Ok : goal.returns-in-Ok
returns-in-Ok g c =
    let p = g.P.Part in
    let o = g.W.Watcher in
    let e = c.args.self.now in
    let out = c.args.out.now in
    let s = c.show-shown.ensures in
    let reading = c.show-shown.new.self.reading in
    let end = c.end_of_cycle-end in
    let t = turned g (goal.at.returns-in-Ok g c).After-turn-woken in
    let hand = c.hand_sent in
    let h = cycle g (goal.at.returns-in-Ok g c).After-turn-woken in
    let ok = s.ok c.in-Ok.is in
    record {
      cycle = refl;
      showed = subst (λ (x : Engine g.row.P.Denot). Showed p o hand.result e (record x { cycle = e.cycle + 1; input = end.result; changed = c.turn-woken.result.changed; answers = hand.new.answers }) c.args.steps.now c.turn-woken.new.steps out hand.new.out) (sym t.same)
          (record {
            on = record {
              may = record {
                lags = h.lags end.result hand.new.answers hand.ensures.none.1 hand.ensures.none.0;
                behind = passed g (goal.at.returns-in-Ok g c).After-turn-woken;
                order = c.requires.may.order;
              };
              same_wiring = refl;
              same_inputs = refl;
              leg = h.leg;
              tells = λ _. h.tells;
            };
            ok = λ is. (
              handed_both o.whole o.faults o.stands out c.show-shown.new.out hand.new.out _ _ _ _ ok (hand.ensures.ok is) h.rows_are h.bytes_are,
              λ z ez.
                  let was = s.later c.in-Ok.is z (sym (hand.ensures.last is) ∙ ez) in
                  (was.0, hand.ensures.seen is reading.nets.levels was.1),
            );
            failed = λ is.
                let f = hand.ensures.failed is in (
                  rw (← ok.no_fault) f.0,
                  fails_first p g.met.P.Part.laws o e out hand.new.out c.requires.watches.whole
                      (stopped_second o.whole o.faults o.stands o.stopped out c.show-shown.new.out hand.new.out _ _ _ _ ok f.1 h.rows_are h.bytes_are),
                );
            place = hand.ensures.place ∙ s.place;
          });
    }

pub returns-in-Failed : goal.returns-in-Failed
returns-in-Failed g c =
    let p = g.P.Part in
    let o = g.W.Watcher in
    let e = c.args.self.now in
    let out = c.args.out.now in
    let s = c.show-shown.ensures in
    let end = c.end_of_cycle-end in
    let t = turned g (goal.at.returns-in-Failed g c).After-turn-woken in
    let none = c.forget in
    let h = cycle g (goal.at.returns-in-Failed g c).After-turn-woken in
    let f = s.failed c.in-Failed.is in
    record {
      cycle = refl;
      showed = subst (λ (x : Engine g.row.P.Denot). Showed p o writes.Failed e (record x { cycle = e.cycle + 1; input = end.result; changed = c.turn-woken.result.changed; answers = none.new.answers }) c.args.steps.now c.turn-woken.new.steps out c.show-shown.new.out) (sym t.same)
          (record {
            on = record {
              may = record {
                lags = h.lags end.result none.new.answers none.ensures.long none.ensures.none;
                behind = passed g (goal.at.returns-in-Failed g c).After-turn-woken;
                order = c.requires.may.order;
              };
              same_wiring = refl;
              same_inputs = refl;
              leg = h.leg;
              tells = λ _. h.tells;
            };
            ok = λ (is : writes.Failed ≡ writes.Ok). absurd cc;
            failed = λ _. (
              f.0,
              fails_first p g.met.P.Part.laws o e out c.show-shown.new.out c.requires.watches.whole
                  (stopped_first (o.stands out) (o.stopped c.show-shown.new.out) _ _ _ f.1 h.rows_are),
            );
            place = s.place;
          });
    }
