use Rattle.std.proofs.Common.{◌+◌, ◌<◌, ◌≤◌, ℕ, Option, ap, arith}
use Rattle.avr_unit.specs.Both.{first_of_two}
use Rattle.avr_unit.proofs.PassLemmas.{pass_silent, pass_state, pass_request}
use Rattle.avr_unit.proofs.UnitLemmas.{move_none}
use Rattle.avr_unit.proofs.seldom.SeldomGroup.step.Goals as goal

pub notices-requires-clause-due : goal.notices-requires-clause-due
notices-requires-clause-due g c = c.requires.here.due_is

pub notices-requires-clause-here : goal.notices-requires-clause-here
notices-requires-clause-here g c = c.requires.here.here

pub returns-then-notices-clause-stands : goal.returns-then-notices-clause-stands
returns-then-notices-clause-stands g c = record {
  here = c.step-moved.ensures.stands;
  due_is = c.due-self.ensures;
  request_is = c.request-self.ensures _ c.step-moved.ensures.stands;
}

pub returns-else-notices : goal.returns-else-notices
returns-else-notices g c =
    let o = g.G.Group in
    let m = o.machine in
    let laws = g.met.G.Group.laws in
    let s = c.args.self.now.group in
    let t = c.args.cycle in
    let before = c.args.before.now in
    let now = c.args.now.now in
    let r = c.requires.here in
    let same = r.due_is in
    let near = c.notices.ensures.quiet c.if-notices.false in
    let less : t < o.until s = omega (arith, near, same) in
    let none = c.notices.ensures.unheard c.if-notices.false in
    let first = g.met.G.Group.first s before t r.here in
    let later : t ≤ t + 1 = omega arith in
    let soon : t + 1 ≤ o.until s = omega (arith, less) in
    let on = g.met.G.Group.waits s now t (t + 1) (c.notices.ensures.stands c.if-notices.false) later soon in
    record {
      byte = ap (λ (x : Option ℕ). first_of_two x c.args.others.0) (pass_silent m laws (o.state s) t (o.until s) first less);
      others = λ p out. out;
      pads = λ p inside out. move_none m laws t (o.until s) (o.state s) first less before now none p;
      state = pass_state m laws (o.state s) t (o.until s) first less before now none on.1;
      stands = record {
        here = on.0;
        due_is = same;
        request_is = pass_request m laws (o.state s) t (o.until s) first less before now none on.1 _ r.request_is;
      };
    }
