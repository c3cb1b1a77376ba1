use Rattle.std.proofs.Common.{◌≡◌, ◌∙◌, ◌+◌, ◌-◌, refl, arith, sym, ap}
use Rattle.std.specs.Prelude.{slice_get}
use Rattle.std.proofs.lemmas.Bool.{or_parts}
use Rattle.part_law.specs.Going.{Gone}
use Rattle.part_law.proofs.GoingLemmas.{jumped, jumped_on, gone_to, gone_woke, none_there, due_at, quiet_to}
use Rattle.part_law.proofs.part.Part.go_on.Goals as goal

pub settle-requires-clause-later : goal.settle-requires-clause-later
settle-requires-clause-later g c = (due_at g.Self.Part.machine (g.Self.Part.state c.loop-u.self) (g.Self.Part.now c.loop-u.self) c.in-Some.u c.args.limit c.due.result c.due.ensures (c.in-Some.ensures.some c.in-Some.u refl)).0

pub settle-requires-clause-end : goal.settle-requires-clause-end
settle-requires-clause-end g c = omega (arith, (due_at g.Self.Part.machine (g.Self.Part.state c.loop-u.self) (g.Self.Part.now c.loop-u.self) c.in-Some.u c.args.limit c.due.result c.due.ensures (c.in-Some.ensures.some c.in-Some.u refl)).1)

pub returns-then-changed-is_some : goal.returns-then-changed-is_some
returns-then-changed-is_some g c =
    let p = g.Self.Part in
    let i = c.loop-u.invariant in
    let d = due_at p.machine (p.state c.loop-u.self) (p.now c.loop-u.self) c.in-Some.u c.args.limit c.due.result c.due.ensures (c.in-Some.ensures.some c.in-Some.u refl) in
    let w = jumped p.machine g.met.Self.Part.laws (p.state c.args.self.now) (p.now c.args.self.now) (p.now c.loop-u.self) c.in-Some.u (p.wakes c.loop-u.self - p.wakes c.args.self.now)
    (p.state c.loop-u.self) (p.state c.settle.new.self) (p.now c.settle.new.self) (p.state c.wake_held-byte.new.self) c.wake_held-byte.result
    i.begun d.0 c.requires.valid i.gone d.2 d.3 c.settle.ensures.state c.settle.ensures.now c.wake_held-byte.ensures.state c.wake_held-byte.ensures.byte in
    let woken = c.wake_held-byte.ensures in
    record {
      to = woken.now ∙ omega (arith, c.settle.ensures.now);
      forward = omega (arith, i.begun, d.0);
      within = omega (arith, d.1);
      progress = λ h. omega (arith, i.begun, d.0);
      state = w.1.state;
      wakes = omega (arith, w.1.dues_are, i.woken, woken.wakes, c.settle.ensures.wakes);
      steps = omega (arith, w.1.dues_are, i.woken, i.steps, c.tick.ensures);
      same = w.1.same;
      drives = λ e. woken.drives (sym c.changed-changed.ensures ∙ e) ∙ w.0.drives;
      contacts = λ e. woken.contacts (sym c.changed-changed.ensures ∙ e) ∙ w.0.contacts;
      others = λ pin none. woken.others pin none ∙ ap (λ ds. slice_get ds pin) w.0.drives;
      sent = w.1.sent_is;
      silent = w.1.silent;
    }

pub loop-u-preserved : goal.loop-u-preserved
loop-u-preserved g c =
    let p = g.Self.Part in
    let i = c.loop-u.invariant in
    let d = due_at g.Self.Part.machine (g.Self.Part.state c.loop-u.self) (g.Self.Part.now c.loop-u.self) c.in-Some.u c.args.limit c.due.result c.due.ensures (c.in-Some.ensures.some c.in-Some.u refl) in
    let w = jumped p.machine g.met.Self.Part.laws (p.state c.args.self.now) (p.now c.args.self.now) (p.now c.loop-u.self) c.in-Some.u (p.wakes c.loop-u.self - p.wakes c.args.self.now)
    (p.state c.loop-u.self) (p.state c.settle.new.self) (p.now c.settle.new.self) (p.state c.wake_held-byte.new.self) c.wake_held-byte.result
    i.begun d.0 c.requires.valid i.gone d.2 d.3 c.settle.ensures.state c.settle.ensures.now c.wake_held-byte.ensures.state c.wake_held-byte.ensures.byte in
    let n = or_parts c.changed-changed.result c.is_some.result c.if-changed-is_some.false in
    let still = sym c.changed-changed.ensures ∙ n.0 in
    let t = p.now c.args.self.now in
    let e : c.in-Some.u + 1 - t ≡ p.now c.wake_held-byte.new.self - t = omega (arith, c.wake_held-byte.ensures.now, c.settle.ensures.now) in
    let f : p.wakes c.loop-u.self - p.wakes c.args.self.now + 1 ≡ p.wakes c.wake_held-byte.new.self - p.wakes c.args.self.now = omega (arith, i.woken, c.wake_held-byte.ensures.wakes, c.settle.ensures.wakes) in
    let on : Gone p.machine (p.state c.args.self.now) t (c.in-Some.u + 1 - t) (p.wakes c.loop-u.self - p.wakes c.args.self.now + 1) (p.state c.wake_held-byte.new.self) =
    jumped_on p.machine (p.state c.args.self.now) t (c.in-Some.u + 1 - t) (p.wakes c.loop-u.self - p.wakes c.args.self.now) (p.state c.settle.new.self) (p.state c.wake_held-byte.new.self) c.wake_held-byte.result (c.in-Some.u - t)
    w.0 w.1 (none_there c.wake_held-byte.result (sym c.is_some.ensures ∙ n.1)) (c.wake_held-byte.ensures.drives still) (c.wake_held-byte.ensures.contacts still) in
    record {
      begun = omega (arith, i.begun, d.0, c.wake_held-byte.ensures.now, c.settle.ensures.now);
      within = omega (arith, d.1, c.wake_held-byte.ensures.now, c.settle.ensures.now);
      count = omega (arith, i.count, d.0, c.wake_held-byte.ensures.now, c.settle.ensures.now, c.wake_held-byte.ensures.wakes, c.settle.ensures.wakes);
      gone = rw (← e) rw (← f) on;
      woken = omega (arith, i.woken, c.wake_held-byte.ensures.wakes, c.settle.ensures.wakes);
      steps = omega (arith, i.steps, i.woken, c.tick.ensures, c.wake_held-byte.ensures.wakes, c.settle.ensures.wakes);
    }

pub returns : goal.returns
returns g c =
    let p = g.Self.Part in
    let i = c.loop-u.invariant in
    let quiet = quiet_to p.machine (p.state c.loop-u.self) (p.now c.loop-u.self) c.args.limit c.due.result c.requires.end c.due.ensures (λ u. c.in_default.ensures.none u refl) in
    let w = gone_to p.machine g.met.Self.Part.laws (p.state c.args.self.now) (p.now c.args.self.now) (p.now c.loop-u.self) c.args.limit (p.wakes c.loop-u.self - p.wakes c.args.self.now)
    (p.state c.loop-u.self) i.begun i.within c.requires.valid i.gone quiet in
    let settled = c.settle-2.ensures in
    record {
      to = settled.now;
      forward = omega (arith, i.begun, i.within);
      within = omega arith;
      progress = λ h. h;
      state = settled.state ∙ w.state;
      wakes = omega (arith, w.dues_are, i.woken, settled.wakes);
      steps = omega (arith, w.dues_are, i.steps);
      same = w.same;
      drives = λ e. ap p.machine.drives settled.state ∙ w.drives;
      contacts = λ e. ap p.machine.contacts settled.state ∙ w.contacts;
      others = λ pin none. ap (λ ds. slice_get ds pin) (ap p.machine.drives settled.state ∙ w.drives);
      sent = w.silent;
      silent = (gone_woke p.machine (p.state c.args.self.now) (p.now c.args.self.now) (c.args.limit - p.now c.args.self.now) _ _ w).silent;
    }
