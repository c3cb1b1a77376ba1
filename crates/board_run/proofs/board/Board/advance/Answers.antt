use Rattle.std.proofs.Common.{◌≡◌, ◌<◌, ◌≤◌, ◌-◌, ◌∙◌, ap, sym, refl, arith, List, ℕ, subst}
use Rattle.std.specs.Prelude.{length}
use Rattle.sim_base.specs.declared.signal.Level.{Level}
use Rattle.board_run.specs.BoardView.{BoardView}
use Rattle.board_run.specs.ReadingView.{shown}
use Rattle.board_run.specs.Engine.{wiring_of, Showed}
use Rattle.board_run.specs.declared.engine.Engine.{Engine}
use Rattle.board_run.proofs.ShowLemmas.{levels_shown, later_shown}
use Rattle.board_run.proofs.LegLemmas.{at_here}
use Rattle.board_run.proofs.EngineLemmas.{fails_within, showed_settled}
use Rattle.board_run.proofs.ViewLemmas.{board_went, not_cut_off}
use Rattle.board_run.proofs.board.Board.advance.Given.{Over}
use Rattle.board_run.proofs.board.Board.advance.Goals.{After-settle}
use Rattle.board_run.proofs.board.Board.advance.Goals as goal

pub advance-end-requires : goal.advance-end-requires
advance-end-requires g c =
    let i = c.self.inside.engine in
    let cycle = ap (λ (v : BoardView g.row.P.Denot). v.cycle) c.self.view_is in
    let further : i.cycle < c.args.n = subst (λ (t : ℕ). t < c.args.n) (sym cycle) c.requires.order in
    record {
      order = further;
      end = c.requires.end;
      may = c.self.invariant.may;
      watches = record {
        whole = c.requires.whole;
        later = λ x ex.
            let later = c.requires.later x ex in
            let less : x < i.cycle = subst (λ (t : ℕ). x < t) (sym cycle) later.0 in
            (less, later.1 (shown i.reading) (sym (ap (λ (v : BoardView g.row.P.Denot). v.before) c.self.view_is) ∙ later_shown i.cycle x i.reading less));
      };
    }

pub settle-requires : goal.settle-requires
settle-requires g c = record { end = omega (arith, c.advance-end.ensures.within, c.requires.end); may = c.advance-end.ensures.showed.on.may }

-- what the engine showed, with its parts at its cycle
showed : (g : Over) (c : After-settle g) → Showed g.P.Part g.W.Watcher c.advance-end.result c.self.inside.engine c.settle.new.self c.args.steps.now c.advance-end.new.steps c.args.out.now c.advance-end.new.out
showed g c =
    let r = c.advance-end in
    showed_settled g.P.Part g.met.P.Part.laws g.W.Watcher r.result c.self.inside.engine r.new.self c.settle.new.self c.args.steps.now r.new.steps c.args.out.now r.new.out r.ensures.showed c.settle.ensures.settled

pub invariant_of-self : goal.invariant_of-self
invariant_of-self g c = record { may = (showed g (goal.at.invariant_of-self g c).After-settle).on.may; at = c.settle.ensures.at; end = (let same = ap (λ (e : Engine g.row.P.Denot). e.cycle) c.settle.ensures.settled.same in omega (arith, same, c.advance-end.ensures.within, c.requires.end)) }

pub invariant_of-self-in-Failed : goal.invariant_of-self-in-Failed
invariant_of-self-in-Failed g c = record { may = (showed g (goal.at.invariant_of-self-in-Failed g c).After-settle).on.may; at = c.settle.ensures.at; end = (let same = ap (λ (e : Engine g.row.P.Denot). e.cycle) c.settle.ensures.settled.same in omega (arith, same, c.advance-end.ensures.within, c.requires.end)) }

pub returns-in-Ok : goal.returns-in-Ok
returns-in-Ok g c =
    let p = g.P.Part in
    let o = g.W.Watcher in
    let m = p.machine in
    let laws = g.met.P.Part.laws in
    let i = c.self.inside.engine in
    let r = c.advance-end in
    let new = c.settle.new.self in
    let s = showed g (goal.at.returns-in-Ok g c).After-settle in
    let ok = s.ok c.in-Ok.is in
    let here = at_here m laws (wiring_of i) p.state p.now p.wakes i.inputs i.cycle i.parts c.self.invariant.at in
    let same = ap (λ (e : Engine g.row.P.Denot). e.cycle) c.settle.ensures.settled.same in
    let alive = ap (λ (v : BoardView g.row.P.Denot). v.given_up) c.self.view_is ∙ c.requires.alive in
    let went = board_went p laws i new c.self.inside.given_up c.args.steps.now r.new.steps alive c.self.invariant.at c.settle.ensures.at s.on in
    record {
      further = rw (← c.self.view_is, same) r.ensures.further;
      within = rw same r.ensures.within;
      went = λ _. rw (← c.self.view_is) went;
      given_up = λ is. not_cut_off is;
      wiring = s.on.same_wiring ∙ ap (λ (v : BoardView g.row.P.Denot). v.wiring) c.self.view_is;
      inputs = s.on.same_inputs ∙ ap (λ (v : BoardView g.row.P.Denot). v.inputs) c.self.view_is;
      handed = λ _. rw (← c.self.view_is, ← here) ok.0;
      silent = rw (← c.self.view_is, ← here, same) r.ensures.silent;
      still = rw (← c.self.view_is, ← here, same) r.ensures.still;
      last = λ _ y ey.
          let last = ok.1 y ey in
          (last.0, λ x ex. subst (λ (ls : List Level). o.seen r.new.out ls) (sym (levels_shown new.cycle new.reading x ex)) last.1);
      failed = λ is. not_cut_off is;
      long = λ is. not_cut_off is;
      place = s.place;
    }

pub returns-in-Failed : goal.returns-in-Failed
returns-in-Failed g c =
    let p = g.P.Part in
    let o = g.W.Watcher in
    let m = p.machine in
    let laws = g.met.P.Part.laws in
    let i = c.self.inside.engine in
    let r = c.advance-end in
    let new = c.settle.new.self in
    let s = showed g (goal.at.returns-in-Failed g c).After-settle in
    let failed = s.failed c.in-Failed.is in
    let here = at_here m laws (wiring_of i) p.state p.now p.wakes i.inputs i.cycle i.parts c.self.invariant.at in
    let same = ap (λ (e : Engine g.row.P.Denot). e.cycle) c.settle.ensures.settled.same in
    let f = failed.1 in
    let stops = fails_within p laws o i new.cycle new.cycle c.args.out.now r.new.out (omega arith) f in
    record {
      further = rw (← c.self.view_is, same) r.ensures.further;
      within = rw same r.ensures.within;
      went = λ is. not_cut_off (sym is);
      given_up = λ _. refl;
      wiring = s.on.same_wiring ∙ ap (λ (v : BoardView g.row.P.Denot). v.wiring) c.self.view_is;
      inputs = s.on.same_inputs ∙ ap (λ (v : BoardView g.row.P.Denot). v.inputs) c.self.view_is;
      handed = λ is. not_cut_off (sym is);
      silent = rw (← c.self.view_is, ← here, same) r.ensures.silent;
      still = rw (← c.self.view_is, ← here, same) r.ensures.still;
      last = λ is. not_cut_off (sym is);
      failed = λ _. rw (← c.self.view_is, ← here) (failed.0, stops);
      long = λ _. s.on.leg.long ∙ ap (λ (v : BoardView g.row.P.Denot). length v.parts) c.self.view_is;
      place = s.place;
    }
