use Rattle.std.proofs.Common.{◌≡◌, ◌<◌, ◌∙◌, ap, sym, refl, subst, arith, Some, map}
use Rattle.std.specs.Option.{option_map}
use Rattle.board_twin.specs.Beside.{difference_of, view_of}
use Rattle.board_twin.specs.Twins.{IsTwin, cycle_of, differs, other_states}
use Rattle.board_twin.specs.declared.twin.TwinEnd.{TwinEnd}
use Rattle.board_twin.proofs.AbreastLemmas.{abreast_start, all_woken, ends_differ, ends_same, room_kept}
use Rattle.board_twin.proofs.DifferenceLemmas.{answer_of}
use Rattle.board_twin.proofs.beside.Beside.run.Goals as goal

pub loop-self-init : goal.loop-self-init
loop-self-init g c =
    let p = g.P.Part in
    let b = c.args.self.now in
    let twins = c.requires.twins in
    let room = c.requires.room in
    record {
      within = (let start = twins.start in omega (arith, start));
      abreast = abreast_start p g.met.P.Part.laws (view_of b) b.chips c.args.steps.now twins twins.start refl room.levels room.own;
    }

pub returns-in-Some : goal.returns-in-Some
returns-in-Some g c =
    let p = g.P.Part in
    let b = c.args.self.now in
    let l = c.loop-self in
    let is = l.invariant.abreast in
    let found : Some c.in-Some.end ≡ option_map differs (difference_of p l.self) = sym c.in-Some.is ∙ c.difference.ensures.found in
    let d = answer_of (difference_of p l.self) c.in-Some.end found in
    let at : d.0.cycle ≡ l.self.board.cycle = ap (λ (e : TwinEnd). cycle_of e 0) d.2 ∙ c.difference.ensures.cycle c.in-Some.end c.in-Some.is in
    let less : l.self.board.cycle < c.args.n = (let e = c.cycle.ensures.value in let h = c.loop-self-test.true in omega (arith, e, h)) in
    record {
      room = room_kept p g.met.P.Part.laws (view_of b) l.self c.args.steps.now l.steps is;
      twin = λ free.
          subst (λ (e : TwinEnd). IsTwin p.machine b.board.wiring b.board.inputs (map p.state b.board.parts) (other_states p.state (view_of b)) c.args.n e c.args.steps.now l.steps) d.2
          (ends_differ p g.met.P.Part.laws (view_of b) l.self c.args.steps.now l.steps is free c.args.n d.0 less d.1 at);
      woken = all_woken p g.met.P.Part.laws (view_of b) l.self c.args.steps.now l.steps is;
    }

pub returns : goal.returns
returns g c =
    let p = g.P.Part in
    let b = c.args.self.now in
    let l = c.loop-self in
    let is = l.invariant.abreast in
    let at : l.self.board.cycle ≡ c.args.n = (let e = c.cycle.ensures.value in let h = c.loop-self-test.false in let w = l.invariant.within in omega (arith, e, h, w)) in
    record {
      room = room_kept p g.met.P.Part.laws (view_of b) l.self c.args.steps.now l.steps is;
      twin = λ free. ends_same p g.met.P.Part.laws (view_of b) l.self c.args.steps.now l.steps is free c.args.n at;
      woken = all_woken p g.met.P.Part.laws (view_of b) l.self c.args.steps.now l.steps is;
    }
