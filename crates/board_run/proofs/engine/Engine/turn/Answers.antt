use Rattle.board_run.proofs.Common.{arith, ◌≡◌, ◌<◌, ◌≤◌, ◌+◌, ◌-◌, ◌∙◌, ℕ, List, length, map, take, drop, sym, ap, subst, Bool, Option, None, Some, true}
use Rattle.board_run.proofs.Common.{false, refl, length-set, ◌||◌, slice_get, slice_set, ltb-true, Input, sum_below, active_in, input_at, get_set_same}
use Rattle.board_run.proofs.Common.{PartSet, Engine, IsTold, retold, Turns, AreLate, has_part, AreNone, given}
use Rattle.board_run.proofs.Common.{MayTurnPart, TurnedPart, wiring_of}
use Rattle.board_run.proofs.ReadLemmas.{retold_suits}
use Rattle.board_run.proofs.WakeLemmas.{silent_more, nothing_there}
use Rattle.board_run.proofs.NextLemmas.{dues_late}
use Rattle.board_run.proofs.TurnLemmas.{some_there, turns_none, turns_pass, turns_on, begun_none, begun_on, due_set, late_set, passed_set}
use Rattle.board_run.proofs.engine.Engine.turn.Given.{Over}
use Rattle.board_run.proofs.engine.Engine.turn.Goals.{After-with_given-marked, After-turn_part-woken, then-silent, else-silent}
use Rattle.board_run.proofs.engine.Engine.turn.Goals as goal

-- what is not marked does not differ and has no value
marks : (g : Over) (c : After-with_given-marked g) → (t k : ℕ) → k < 64 → has_part c.with_given-marked.result k ≡ false → (has_part c.args.differ k ≡ false) × (input_at (given c.args.self.now c.args.end) t k ≡ None)
marks g c t k few none =
    let e = c.args.self.now in
    subst (λ (is : List Input). (has_part c.args.differ k ≡ false) × (input_at (take (c.args.end - e.input) (drop e.input is)) t k ≡ None)) c.as_slice.ensures (c.with_given-marked.ensures.marked t k few none)

pub first_at-least-requires : goal.first_at-least-requires
first_at-least-requires g c =
    let p = g.P.Part in
    let e = c.args.self.now in
    let may = c.requires.may in
    record { end = c.len-count.ensures ∙ sym may.dues_long; late = dues_late p.machine p.state p.now p.wakes e.cycle e.parts e.dues may.dues_long may.may }

pub loop-i-init : goal.loop-i-init
loop-i-init g c =
    let p = g.P.Part in
    let m = p.machine in
    let laws = g.met.P.Part.laws in
    let e = c.args.self.now in
    let may = c.requires.may in
    let first = c.first_at-least.ensures in
    let next = c.next-i.ensures in
    let j = c.next-i.result in
    let begun = λ (i : ℕ). begun_none e.parts e.dues e.answers i may.answers_long may.silent in
    let within : c.first_at-least.result ≤ length e.parts = omega (arith, first.within, c.len-count.ensures) in
    record {
      same = refl;
      order = next.within;
      here = next.here;
      within = within;
      begun = begun j;
      due = λ k x d ex ed. (may.may k x d ex ed).first;
      late = dues_late m p.state p.now p.wakes e.cycle e.parts e.dues may.dues_long may.may;
      passed = first.passed;
      turns = λ inputs ts awaits.
          let pass = turns_pass m laws (wiring_of e) (given e c.args.end) inputs p.state p.now p.wakes e.reading.nets.levels c.with_given-marked.result c.args.differ e.cycle e.parts e.dues ts may.end may.few may.dues_long may.may
          (marks g (goal.at.loop-i-init g c).After-with_given-marked e.cycle) awaits
          0 j e.parts e.dues e.answers false (begun 0) (turns_none m laws (wiring_of e) inputs p.state p.now p.wakes e.reading.nets.levels e.cycle ts e.parts e.answers)
          (omega arith) (omega (arith, next.within, within)) next.passed (λ k l. first.passed k (omega (arith, l, next.within))) in
          (pass.0, omega (arith, pass.1));
      fits = may.fits;
      told = may.told;
      silent = λ none. may.silent;
    }

pub turn_part-woken-requires : goal.turn_part-woken-requires
turn_part-woken-requires g c =
    let p = g.P.Part in
    let m = p.machine in
    let e = c.args.self.now in
    let may = c.requires.may in
    let l = c.loop-i in
    let i = l.i in
    let inv = l.invariant in
    let begun = inv.begun in
    let was = λ (x : g.row.P.Denot) (ex : slice_get l.self.parts i ≡ Some x). sym (begun.rest i (omega arith)) ∙ ex in
    let here : i < length l.self.parts = omega (arith, begun.long, c.len-count.ensures, c.loop-i-test.true) in
    let told : IsTold m (map p.state l.self.parts) (retold e.reading l.self.reading.nets.drives l.self.reading.nets.closed).nets = record { drives_are = inv.told.drives_are; closed_are = inv.told.closed_are } in
    subst (λ (x : Engine g.row.P.Denot). MayTurnPart p x i c.if-silent.may_hear c.args.differ c.args.end) (sym inv.same) (record {
      end = may.end;
      here = here;
      few = omega (arith, begun.long, may.few);
      may = λ x d ex ed. may.may i x d (was x ex) (sym (begun.due_rest i (omega arith)) ∙ ed);
      valid = λ x ex. may.valid i x (was x ex);
      dues_long = begun.dues_long ∙ may.dues_long ∙ sym begun.long;
      answers_long = begun.answers_long ∙ sym begun.long;
      given_within = c.requires.given_within;
      fits = inv.fits;
      suits = retold_suits m (wiring_of e) (map p.state l.self.parts) e.reading l.self.reading.nets.drives l.self.reading.nets.closed inv.fits may.suits told;
      told = told;
      differs = λ x ex. may.differs i x (was x ex);
      hears = λ hears. elim c.if-silent.branch [
        | then-silent w ↦
            let empty = nothing_there (take (c.args.end - e.input) (drop e.input c.as_slice.result.now)) (sym c.is_empty-silent.ensures ∙ w.if-silent.true) in
            let answer = some_there l.self.answers i (omega (arith, begun.answers_long, begun.long, here)) in (
              ap (λ (s : PartSet). has_part s i) (sym (c.with_given-marked.ensures.silent empty)) ∙ inv.here (ltb-true i l.least (sym w.may_hear-is ∙ hears)),
              ap (λ (is : List Input). input_at (take (c.args.end - e.input) (drop e.input is)) e.cycle i) (sym c.as_slice.ensures) ∙ ap (λ (xs : List Input). input_at xs e.cycle i) empty,
              answer.1 ∙ ap Some (begun.quiet i answer.0 (omega arith) answer.1),
            )
        | else-silent w ↦ absurd (let wrong : true ≡ false = sym hears ∙ w.may_hear-is ∙ w.if-silent.false in cc)
      ];
    })

-- the turn of the part
turned : (g : Over) (c : After-turn_part-woken g) → TurnedPart g.P.Part
    (let e : Engine g.row.P.Denot = record c.args.self.now { parts = c.loop-i.self.parts; dues = c.loop-i.self.dues; answers = c.loop-i.self.answers; reading = retold c.args.self.now.reading c.loop-i.self.reading.nets.drives c.loop-i.self.reading.nets.closed } in e)
    c.turn_part-woken.new.self c.loop-i.i c.args.differ c.args.end c.turn_part-woken.result c.loop-i.steps c.turn_part-woken.new.steps
turned g c =
    let w = c.turn_part-woken in
    subst (λ (x : Engine g.row.P.Denot). TurnedPart g.P.Part x w.new.self c.loop-i.i c.args.differ c.args.end w.result c.loop-i.steps w.new.steps) c.loop-i.invariant.same w.ensures

pub first_again-least-requires : goal.first_again-least-requires
first_again-least-requires g c =
    let e = c.args.self.now in
    let l = c.loop-i in
    let inv = l.invariant in
    let new = c.turn_part-woken.new.self in
    let t = turned g (goal.at.first_again-least-requires g c).After-turn_part-woken in
    let dues = ap (λ (x : Engine g.row.P.Denot). x.dues) t.same in
    let cycle = ap (λ (x : Engine g.row.P.Denot). x.cycle) t.same in
    let here : l.i < length l.self.dues = omega (arith, inv.begun.dues_long, c.requires.may.dues_long, c.len-count.ensures, c.loop-i-test.true) in
    record {
      before = omega (arith, inv.within, c.len-count.ensures);
      end = c.len-count.ensures ∙ sym c.requires.may.dues_long ∙ sym inv.begun.dues_long ∙ sym (ap length dues ∙ length-set l.self.dues l.i t.e);
      late = subst (λ (u : ℕ). AreLate new.dues u) (sym cycle) (late_set l.self.dues new.dues l.i e.cycle t.e here dues inv.late t.later);
      passed = λ k h same. passed_set l.self.dues new.dues l.i l.least e.cycle t.e here dues inv.passed t.later k (λ other. omega (arith, h, other, inv.order)) (same ∙ ap (λ (u : ℕ). Some (Some u)) cycle);
      rest = λ less k h same. passed_set l.self.dues new.dues l.i l.least e.cycle t.e here dues inv.passed t.later k (λ other. h) (same ∙ ap (λ (u : ℕ). Some (Some u)) cycle);
    }

pub loop-i-preserved : goal.loop-i-preserved
loop-i-preserved g c =
    let p = g.P.Part in
    let m = p.machine in
    let e = c.args.self.now in
    let may = c.requires.may in
    let ls = e.reading.nets.levels in
    let l = c.loop-i in
    let i = l.i in
    let inv = l.invariant in
    let new = c.turn_part-woken.new.self in
    let t = turned g (goal.at.loop-i-preserved g c).After-turn_part-woken in
    let more = c.turn_part-woken.result.changed in
    let reading = retold e.reading new.reading.nets.drives new.reading.nets.closed in
    let parts_are = ap (λ (x : Engine g.row.P.Denot). x.parts) t.same in
    let dues_are = ap (λ (x : Engine g.row.P.Denot). x.dues) t.same in
    let answers_are = ap (λ (x : Engine g.row.P.Denot). x.answers) t.same in
    let cycle = ap (λ (x : Engine g.row.P.Denot). x.cycle) t.same in
    let least = c.first_again-least.ensures in
    let next = c.next-i-in-loop-i.ensures in
    let j = c.next-i-in-loop-i.result in
    let within : i < length l.self.parts = omega (arith, inv.begun.long, c.len-count.ensures, c.loop-i-test.true) in
    let here : i < length l.self.dues = omega (arith, inv.begun.dues_long, may.dues_long, c.len-count.ensures, c.loop-i-test.true) in
    let room : i < length l.self.answers = omega (arith, inv.begun.answers_long, c.len-count.ensures, c.loop-i-test.true) in
    let new_is : slice_get new.parts i ≡ Some t.q = ap (λ (xs : List g.row.P.Denot). slice_get xs i) parts_are ∙ get_set_same l.self.parts i t.q within in
    let order : i < j = omega (arith, next.from) in
    let inside : c.first_again-least.result ≤ length e.parts = omega (arith, least.within, c.len-count.ensures) in
    let passed = λ (k : ℕ) (h : k < c.first_again-least.result) (same : slice_get new.dues k ≡ Some (Some e.cycle)). least.passed k h (same ∙ ap (λ (u : ℕ). Some (Some u)) (sym cycle)) in
    record {
      same = t.same
          ∙ ap (λ (xs : List g.row.P.Denot). let y : Engine g.row.P.Denot = record e { parts = xs; dues = slice_set l.self.dues i t.e; answers = slice_set l.self.answers i t.byte; reading = reading } in y) (sym parts_are)
          ∙ ap (λ (ds : List (Option ℕ)). let y : Engine g.row.P.Denot = record e { parts = new.parts; dues = ds; answers = slice_set l.self.answers i t.byte; reading = reading } in y) (sym dues_are)
          ∙ ap (λ (bs : List (Option ℕ)). let y : Engine g.row.P.Denot = record e { parts = new.parts; dues = new.dues; answers = bs; reading = reading } in y) (sym answers_are);
      order = next.within;
      here = next.here;
      within = inside;
      begun = begun_on e.parts e.dues i j l.self.parts new.parts l.self.dues new.dues l.self.answers new.answers t.q t.e t.byte inv.begun order parts_are dues_are answers_are;
      due = simp (dues_are, parts_are) (due_set m p.state p.now p.wakes l.self.parts l.self.dues i t.q t.e within here inv.due t.first);
      late = late_set l.self.dues new.dues i e.cycle t.e here dues_are inv.late t.later;
      passed = passed;
      turns = λ inputs ts awaits.
          let so = inv.turns inputs ts awaits in
          let on = turns_on m g.met.P.Part.laws (wiring_of e) (given e c.args.end) inputs p.state p.now p.wakes ls c.with_given-marked.result c.args.differ e.cycle e.parts e.dues ts may.end may.few may.dues_long may.may
          (marks g (goal.at.loop-i-preserved g c).After-with_given-marked e.cycle) awaits i j l.self.parts new.parts l.self.dues new.dues l.self.answers new.answers l.changed more t.p t.q t.d t.e t.byte inv.begun so.0 t.was t.due_was parts_are dues_are answers_are t.took
          order (omega (arith, next.within, inside)) next.passed (λ k h. passed k (omega (arith, h, next.within))) in
          (on.0, omega (arith, so.1, on.1, t.steps_are));
      fits = rw parts_are t.fits;
      told = rw parts_are t.told;
      silent = λ none. subst AreNone (sym answers_are) (silent_more l.self.answers i t.byte l.sent room (ap (λ (b : Bool). l.sent || b) (sym t.sent_is) ∙ none) inv.silent);
    }

pub returns : goal.returns
returns g c =
    let p = g.P.Part in
    let e = c.args.self.now in
    let l = c.loop-i in
    let inv = l.invariant in
    let end : l.i ≡ length e.parts = omega (arith, inv.order, inv.within, c.len-count.ensures, c.loop-i-test.false) in
    record {
      same = inv.same;
      long = inv.begun.long;
      dues_long = inv.begun.dues_long;
      answers_long = inv.begun.answers_long ∙ sym c.requires.may.answers_long;
      turns = λ inputs ts awaits. subst (λ (n : ℕ). Turns p.machine (wiring_of e) inputs p.state p.now p.wakes e.reading.nets.levels e.cycle ts n e.parts l.self.parts l.self.answers l.changed) end (inv.turns inputs ts awaits).0;
      told = inv.told;
      due = inv.due;
      silent = inv.silent;
      counted = λ inputs ts awaits. subst (λ (n : ℕ). l.steps ≡ c.args.steps.now + sum_below n (λ k. active_in p.machine (wiring_of e) inputs e.reading.nets.levels e.cycle k (slice_get ts k))) end (inv.turns inputs ts awaits).1;
    }
