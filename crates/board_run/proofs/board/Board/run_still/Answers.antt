use Rattle.std.proofs.Common.{◌<◌, ◌∙◌, ap, sym, arith, ℕ, subst}
use Rattle.board_run.specs.BoardView.{BoardView}
use Rattle.board_run.specs.Engine.{wiring_of, Rests}
use Rattle.board_run.proofs.LegLemmas.{at_here}
use Rattle.board_run.proofs.EngineLemmas.{rests_settled}
use Rattle.board_run.specs.declared.engine.Engine.{Engine}
use Rattle.board_run.proofs.ViewLemmas.{board_went}
use Rattle.board_run.proofs.board.Board.run_still.Given.{Over}
use Rattle.board_run.proofs.board.Board.run_still.Goals.{After-settle}
use Rattle.board_run.proofs.board.Board.run_still.Goals as goal

pub rest-requires : goal.rest-requires
rest-requires g c =
    let cycle = ap (λ (v : BoardView g.row.P.Denot). v.cycle) c.self.view_is in
    record { order = subst (λ (t : ℕ). t < c.args.n) (sym cycle) c.requires.order; end = c.requires.end; may = c.self.invariant.may }

pub settle-requires : goal.settle-requires
settle-requires g c = record { end = omega (arith, c.rest.ensures.within, c.requires.end); may = c.rest.ensures.rests.on.may }

rests : (g : Over) (c : After-settle g) → Rests g.P.Part c.self.inside.engine c.settle.new.self c.args.steps.now c.rest.new.steps
rests g c = rests_settled g.P.Part g.met.P.Part.laws c.self.inside.engine c.rest.new.self c.settle.new.self c.args.steps.now c.rest.new.steps c.rest.ensures.rests c.settle.ensures.settled

pub invariant_of-self : goal.invariant_of-self
invariant_of-self g c = record { may = (rests g (goal.at.invariant_of-self g c).After-settle).on.may; at = c.settle.ensures.at; end = (let same = ap (λ (e : Engine g.row.P.Denot). e.cycle) c.settle.ensures.settled.same in omega (arith, same, c.rest.ensures.within, c.requires.end)) }

pub returns : goal.returns
returns g c =
    let p = g.P.Part in
    let laws = g.met.P.Part.laws in
    let i = c.self.inside.engine in
    let new = c.settle.new.self in
    let s = rests g (goal.at.returns g c).After-settle in
    let here = at_here p.machine laws (wiring_of i) p.state p.now p.wakes i.inputs i.cycle i.parts c.self.invariant.at in
    let alive = ap (λ (v : BoardView g.row.P.Denot). v.given_up) c.self.view_is ∙ c.requires.alive in
    record {
      within = (let same = ap (λ (e : Engine g.row.P.Denot). e.cycle) c.settle.ensures.settled.same in omega (arith, same, c.rest.ensures.within));
      still = rw (← c.self.view_is) (record {
        went = board_went p laws i new c.self.inside.given_up c.args.steps.now c.rest.new.steps alive c.self.invariant.at c.settle.ensures.at s.on;
        steady = λ less. rw here at (s.steady less);
        stays = s.stays;
      });
    }
