use Rattle.board_run.proofs.Common.{◌≡◌, None, Some, subst, sym, ap, refl, arith, ◌∙◌, MayRun, MayStretch, Rests, Engine}
use Rattle.board_run.proofs.EngineLemmas.{rests_next}
use Rattle.board_run.proofs.engine.Engine.rest.Goals as goal

pub stretch-requires : goal.stretch-requires
stretch-requires g c =
    let found = c.find_alone.ensures.alone (c.in-Some.who, c.in-Some.limit) c.in-Some.is in
    let same = sym c.find_alone.ensures.same in
    record {
      end = omega (arith, found.within, c.requires.end);
      may = subst (λ (e : Engine g.row.P.Denot). MayRun g.P.Part e) same c.requires.may;
      alone = subst (λ (e : Engine g.row.P.Denot). MayStretch e c.in-Some.who c.in-Some.limit c.in-Some.limit) same (record { fresh = found.fresh; after = found.after; within = omega arith; alone = found.alone });
      watches = record { whole = refl; later = λ x ex. absurd (let none : None ≡ Some x = sym c.new.ensures ∙ ex in cc) };
    }

pub returns-in-Some : goal.returns-in-Some
returns-in-Some g c =
    let p = g.P.Part in
    let e = c.stretch.ensures in
    record {
      within = omega (arith, e.within, (c.find_alone.ensures.alone (c.in-Some.who, c.in-Some.limit) c.in-Some.is).within);
      rests = subst (λ (x : Engine g.row.P.Denot). Rests p x c.stretch.new.self c.args.steps.now c.stretch.new.steps) c.find_alone.ensures.same
          (record { on = e.showed.on; steady = λ _. e.steady; stays = λ is. (let far = e.further in absurd (omega (arith, far, is))) });
    }

pub skip-requires : goal.skip-requires
skip-requires g c =
    let same = sym c.find_alone.ensures.same in
    record {
      within = (let e = ap (λ (e : Engine g.row.P.Denot). e.cycle) same in omega (arith, e, c.requires.order));
      may = subst (λ (e : Engine g.row.P.Denot). MayRun g.P.Part e) same c.requires.may;
    }

pub returns-in-None : goal.returns-in-None
returns-in-None g c =
    let p = g.P.Part in
    let e = c.find_alone.new.self in
    let may = subst (λ (e : Engine g.row.P.Denot). MayRun g.P.Part e) (sym c.find_alone.ensures.same) c.requires.may in
    record {
      within = c.skip.ensures.next.within;
      rests = subst (λ (x : Engine g.row.P.Denot). Rests p x c.skip.new.self c.args.steps.now c.args.steps.now) c.find_alone.ensures.same
          (subst (λ (x : Engine g.row.P.Denot). Rests p e x c.args.steps.now c.args.steps.now) (sym c.skip.ensures.rest)
          (rests_next p g.met.P.Part.laws e c.args.n c.skip.new.self.cycle c.args.steps.now may c.skip.ensures.next c.requires.end));
    }
