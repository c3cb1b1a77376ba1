use Rattle.std.proofs.Common.{◌≡◌, ◌+◌, ◌∙◌, ℕ, ap, sym, refl, subst, map, length, arith}
use Rattle.sim_base.specs.declared.wiring.Wiring.{Wiring}
use Rattle.board_model.specs.Rows.{shown_of}
use Rattle.board_run.specs.BoardWent.{BoardWent}
use Rattle.board_twin.specs.Beside.{AreBehind, ChipsTurned}
use Rattle.board_twin.proofs.AbreastLemmas.{length_levels, may_step, shown_once, steps_on}
use Rattle.board_twin.proofs.beside.Beside.step.Goals as goal

pub turn-requires : goal.turn-requires
turn-requires g c =
    let p = g.P.Part in
    let b = c.args.self.now.board in
    let e = c.in-Done.ensures in
    let x = c.requires.way in
    let same = c.wiring.ensures ∙ e.wiring in
    let may = may_step p g.met.P.Part.laws x.start c.args.self.now x.steps c.args.steps.now x.is c.wiring.result.now same in
    let shown = e.before refl ∙ shown_once p.machine b.wiring (map p.state b.parts) b.inputs c.cycle-t.result b.cycle b.before (sym c.cycle-t.ensures.value) in
    let read = c.levels.ensures (shown_of p.machine b.wiring (map p.state b.parts)) shown in
    let at = c.cycle-t.ensures.value in
    record {
      end = (let o = c.requires.end in omega (arith, o, at));
      places = may.1;
      levels = ap length read ∙ length_levels p.machine b.wiring (map p.state b.parts) ∙ sym (ap (λ (w : Wiring). w.nets) same);
      behind = subst (λ (t : ℕ). AreBehind p c.wiring.result.now t c.args.self.now.chips) (sym at) may.0;
    }

pub returns : goal.returns
returns g c =
    let p = g.P.Part in
    let m = p.machine in
    let b = c.args.self.now.board in
    let new = c.run.new.self in
    let e = c.in-Done.ensures in
    let t = c.cycle-t.result in
    let at : t ≡ b.cycle = c.cycle-t.ensures.value in
    let next : new.cycle ≡ t + 1 = e.cycle refl in
    let ss = map p.state b.parts in
    let went : BoardWent p b new c.args.steps.now c.run.new.steps = record {
      from = omega (arith, at, next);
      alive = e.alive refl;
      same_wiring = e.wiring;
      same_inputs = e.inputs;
      states_are = rw next (e.states refl);
      before_is = rw next (e.before refl);
      tells = λ _. rw next (e.changed refl);
      steps_are = rw next (e.steps refl);
      woken = rw next (e.woken refl);
    } in
    let shown = e.before refl ∙ shown_once m b.wiring ss b.inputs t b.cycle b.before (sym at) in
    let read = c.levels.ensures (shown_of m b.wiring ss) shown in
    let turned = subst (λ (v : ℕ). ChipsTurned p c.wiring.result.now c.levels.result.now v c.args.self.now.chips (length c.wiring.result.now.chip) c.turn.new.self c.run.new.steps c.turn.new.steps) at c.turn.ensures.turned in
    record {
      cycle = next ∙ ap (λ (v : ℕ). v + 1) at;
      went = λ start steps is.
          steps_on p g.met.P.Part.laws start c.args.self.now steps c.args.steps.now is new c.run.new.steps went c.turn.new.self c.turn.new.steps c.wiring.result.now c.levels.result.now
          c.requires.same c.requires.end (next ∙ ap (λ (v : ℕ). v + 1) at) (c.wiring.ensures ∙ e.wiring) read turned c.turn.ensures.levels c.turn.ensures.own;
    }
