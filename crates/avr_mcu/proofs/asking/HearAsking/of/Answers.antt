use Rattle.std.proofs.Common.{◌+◌, ◌<◌, ◌≤◌, ℕ, sym, subst, arith}
use Rattle.avr_unit.specs.UnitMachine.{FirstDue}
use Rattle.avr_unit.proofs.UnitLemmas.{move_none}
use Rattle.avr_unit.proofs.PassLemmas.{pass_due, pass_silent, pass_state, pass_request}
use Rattle.avr_mcu.proofs.asking.HearAsking.of.Goals as goal

pub notices-requires-clause-due : goal.notices-requires-clause-due
notices-requires-clause-due g c = c.requires.ready.due_is

pub notices-requires-clause-here : goal.notices-requires-clause-here
notices-requires-clause-here g c = c.requires.ready.asked

pub returns-else-notices : goal.returns-else-notices
returns-else-notices g c =
    let o = g.G.Group in
    let m = o.machine in
    let laws = g.met.G.Group.laws in
    let s = c.args.group.now in
    let t = c.args.cycle in
    let before = c.args.before.now in
    let now = c.args.now.now in
    let r = c.requires.ready in
    let near = c.notices.ensures.quiet c.if-notices.false in
    let less : t < o.until s = omega (arith, near, r.due_is) in
    let none = c.notices.ensures.unheard c.if-notices.false in
    let first = g.met.G.Group.first s before t r.asked in
    let later : t ≤ t + 1 = omega arith in
    let soon : t + 1 ≤ o.until s = omega (arith, less) in
    let on = g.met.G.Group.waits s now t (t + 1) (c.notices.ensures.stands c.if-notices.false) later soon in
    let waits = on.1 in
    let asked = on.0 in
    record {
      told = record {
        byte_is = pass_silent m laws (o.state s) t (o.until s) first less;
        resets_is = sym (laws.power_laws.resets_due (o.state s t) t (pass_due m laws (o.state s) t (o.until s) first less));
        pads = λ p inside out. move_none m laws t (o.until s) (o.state s) first less before now none p;
      };
      state = pass_state m laws (o.state s) t (o.until s) first less before now none waits;
      ready = record {
        asked = asked;
        due_is = r.due_is;
        first = subst (λ (d : ℕ). FirstDue m (o.state s (t + 1)) (t + 1) d) (sym r.due_is) (g.met.G.Group.first s now (t + 1) asked);
        request_is = pass_request m laws (o.state s) t (o.until s) first less before now none waits _ r.request_is;
        waits = λ u le near. g.met.G.Group.waits s now (t + 1) u asked le near;
      };
    }
