use Rattle.board_run.proofs.Common.{◌∙◌, arith, ℕ, List, length, map, ap, sym, subst, get_or, length-set, slice_index, Fits, IsTold, retold, Engine, Wiring, wiring_of}
use Rattle.board_run.proofs.EngineLemmas.{turn_replaces, turn_tells}
use Rattle.board_run.proofs.engine.Engine.turn_part.Goals as goal

pub wake_at-woken-requires : goal.wake_at-woken-requires
wake_at-woken-requires g c = record { may = c.requires; first = ap (λ (l : List ℕ). get_or l c.args.i 0) (c.as_slice.ensures ∙ ap (λ (w : Wiring). w.first_pin) c.wiring.ensures) }

pub tell-changed-requires : goal.tell-changed-requires
tell-changed-requires g c =
    let e = c.args.self.now in
    let i = c.args.i in
    let w = c.wake_at-woken in
    let at = w.ensures in record {
      within = omega (arith, c.requires.here, length-set e.parts i at.q, ap (λ (x : Engine g.row.P.Denot). length x.parts) at.same);
      first = ap (λ (l : List ℕ). get_or l i 0) (c.as_slice.ensures ∙ ap (λ (w : Wiring). w.first_pin) c.wiring.ensures) ∙ ap (λ (x : Engine g.row.P.Denot). slice_index (wiring_of x).first_pin i) (sym at.same);
      may = turn_tells g.P.Part g.met.P.Part.laws e w.new.self i c.args.end c.args.may_hear c.args.differ w.result c.args.steps.now w.new.steps c.requires at;
    }

pub returns : goal.returns
returns g c =
    let p = g.P.Part in
    let m = p.machine in
    let e = c.args.self.now in
    let i = c.args.i in
    let w = c.wake_at-woken in
    let at = w.ensures in
    let told = c.tell-changed.ensures in
    let new = c.tell-changed.new.self in
    let shifted = told.shifted e.parts at.p at.q (turn_replaces p g.met.P.Part.laws e w.new.self i c.args.end c.args.may_hear c.args.differ w.result c.args.steps.now w.new.steps c.requires at) in
    record {
      p = at.p;
      q = at.q;
      d = at.d;
      e = at.e;
      byte = at.byte;
      was = at.was;
      due_was = at.due_was;
      same = told.same ∙ ap (λ (x : Engine g.row.P.Denot). let y : Engine g.row.P.Denot = record x { reading = retold x.reading new.reading.nets.drives new.reading.nets.closed } in y) at.same;
      sent_is = at.sent_is;
      fits = subst (λ (x : Engine g.row.P.Denot). Fits m (wiring_of x) (map p.state x.parts)) at.same told.fits;
      told = subst (λ (x : Engine g.row.P.Denot). IsTold m (map p.state x.parts) new.reading.nets) at.same told.told;
      took = record { touched = w.result.changed; turn = at.turn.turn; shifted = shifted };
      first = at.turn.first;
      later = at.turn.later;
      steps_are = at.turn.steps_are;
    }
