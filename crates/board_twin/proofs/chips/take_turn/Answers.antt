use Rattle.std.proofs.Common.{◌≡◌, ◌-◌, ◌+◌, ◌∙◌, sym, ap, subst, arith, length, ℕ, None, Option, Bool, true}
use Rattle.std.specs.Prelude.{if◌then◌else◌}
use Rattle.part_law.proofs.MachineLemmas.{glide_pins}
use Rattle.board_run.specs.Lagging.{glided, turned}
use Rattle.board_run.proofs.TurnLemmas.{may_wake}
use Rattle.board_twin.proofs.TurnedLemmas.{other_levels, wakes_where}
use Rattle.board_twin.proofs.chips.take_turn.Goals as goal

pub wake-requires-clause-pins : goal.wake-requires-clause-pins
wake-requires-clause-pins g c =
    let p = g.P.Part in
    let x = c.args.chip.now in
    c.requires.pins ∙ sym (ap (λ s. length (p.machine.drives s)) c.settle.ensures.state ∙ glide_pins p.machine g.met.P.Part.laws (p.state x) (p.now x) (c.args.t - p.now x))

pub wake-requires-clause-may : goal.wake-requires-clause-may
wake-requires-clause-may g c =
    let p = g.P.Part in
    let x = c.args.chip.now in
    let r = c.requires in
    let may = may_wake p.machine g.met.P.Part.laws p.state p.now p.wakes c.args.t x c.due.result None c.args.own.now c.args.differs
    (record { not_later = r.stands.not_later; count = r.count; quiet = r.stands.quiet; first = c.due.ensures })
    (λ yes later. other_levels c.args.own.now (p.machine.held (p.state x)) c.args.differs (r.differs later) yes) (sym c.is_to_wake.ensures ∙ c.if-is_to_wake.true) in
    rw (c.settle.ensures.state, c.settle.ensures.now) may

pub returns-then-is_to_wake-clause-took : goal.returns-then-is_to_wake-clause-took
returns-then-is_to_wake-clause-took g c =
    let p = g.P.Part in
    let m = p.machine in
    let x = c.args.chip.now in
    let y = c.wake.new.self in
    let own = c.args.own.now in
    let s = glided m p.state p.now p.wakes c.args.t x in
    let step = ap (λ (z : p.State). m.step z (p.now c.settle.new.self) own None) c.settle.ensures.state ∙ ap (λ (t : ℕ). m.step s t own None) c.settle.ensures.now in
    record {
      differs = c.args.differs;
      differs_is = c.requires.differs;
      due = c.due.result;
      first = c.due.ensures;
      byte = c.wake.result;
      turn = subst (λ (b : Bool). turned m p.state p.now p.wakes b c.args.t own None x y c.wake.result true) (sym (sym c.is_to_wake.ensures ∙ c.if-is_to_wake.true)) (record {
        state_is = c.wake.ensures.state ∙ ap (λ (r : p.State × Option ℕ). r.0) step;
        byte_is = c.wake.ensures.byte ∙ ap (λ (r : p.State × Option ℕ). r.1) step;
        now_is = c.wake.ensures.now ∙ ap (λ (t : ℕ). t + 1) c.settle.ensures.now;
        woken = c.wake.ensures.wakes ∙ ap (λ (n : ℕ). n + 1) c.settle.ensures.wakes;
        drives = λ none. absurd cc;
        contacts = λ none. absurd cc;
      });
    }

pub returns-then-is_to_wake-clause-steps : goal.returns-then-is_to_wake-clause-steps
returns-then-is_to_wake-clause-steps g c =
    let p = g.P.Part in
    let x = c.args.chip.now in
    let r = c.requires in
    let active = wakes_where p.machine g.met.P.Part.laws (p.now x) c.args.t (p.state x) (glided p.machine p.state p.now p.wakes c.args.t x) c.due.result c.args.own.now c.args.differs r.end r.stands c.due.ensures r.differs in
    c.tick.ensures ∙ ap (λ (b : Bool). c.args.steps.now + (if b then 1 else 0)) (sym (sym active ∙ sym c.is_to_wake.ensures ∙ c.if-is_to_wake.true))

pub returns-else-is_to_wake-clause-steps : goal.returns-else-is_to_wake-clause-steps
returns-else-is_to_wake-clause-steps g c =
    let p = g.P.Part in
    let x = c.args.chip.now in
    let r = c.requires in
    let active = wakes_where p.machine g.met.P.Part.laws (p.now x) c.args.t (p.state x) (glided p.machine p.state p.now p.wakes c.args.t x) c.due.result c.args.own.now c.args.differs r.end r.stands c.due.ensures r.differs in
    let none : c.args.steps.now ≡ c.args.steps.now + 0 = omega arith in
    none ∙ ap (λ (b : Bool). c.args.steps.now + (if b then 1 else 0)) (sym (sym active ∙ sym c.is_to_wake.ensures ∙ c.if-is_to_wake.false))
