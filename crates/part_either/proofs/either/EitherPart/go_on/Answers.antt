use Rattle.std.proofs.Common.{inl, inr, refl, arith, ◌-◌}
use Rattle.part_law.specs.Either.{either}
use Rattle.part_either.proofs.EmbedLemmas.{woke_in, left_in, right_in}
use Rattle.part_either.proofs.either.EitherPart.go_on.Goals as goal

pub returns-in-Left : goal.returns-in-Left
returns-in-Left g c =
    let p = c.in-Left.part in
    let e = c.go_on.ensures in
    let w = woke_in g.A.Part.machine (either g.A.Part.machine g.B.Part.machine) (λ s. inl s) (left_in g.A.Part.machine g.B.Part.machine) (g.A.Part.state p) (g.A.Part.state c.go_on.new.self) (g.A.Part.now p) (c.go_on.result.to - g.A.Part.now p) _ c.go_on.result.byte
    (record { state = e.state; same = e.same; sent_is = e.sent; silent = e.silent; dues_are = refl }) in
    rw c.in-Left.is (record {
      to = e.to;
      forward = e.forward;
      within = e.within;
      progress = e.progress;
      state = w.state;
      wakes = omega (arith, e.wakes, w.dues_are);
      steps = omega (arith, e.steps, w.dues_are);
      same = w.same;
      drives = e.drives;
      others = e.others;
      contacts = e.contacts;
      sent = w.sent_is;
      silent = w.silent;
    })

pub returns-in-Right : goal.returns-in-Right
returns-in-Right g c =
    let p = c.in-Right.part in
    let e = c.go_on-in-Right.ensures in
    let w = woke_in g.B.Part.machine (either g.A.Part.machine g.B.Part.machine) (λ s. inr s) (right_in g.A.Part.machine g.B.Part.machine) (g.B.Part.state p) (g.B.Part.state c.go_on-in-Right.new.self) (g.B.Part.now p) (c.go_on-in-Right.result.to - g.B.Part.now p) _ c.go_on-in-Right.result.byte
    (record { state = e.state; same = e.same; sent_is = e.sent; silent = e.silent; dues_are = refl }) in
    rw c.in-Right.is (record {
      to = e.to;
      forward = e.forward;
      within = e.within;
      progress = e.progress;
      state = w.state;
      wakes = omega (arith, e.wakes, w.dues_are);
      steps = omega (arith, e.steps, w.dues_are);
      same = w.same;
      drives = e.drives;
      others = e.others;
      contacts = e.contacts;
      sent = w.sent_is;
      silent = w.silent;
    })
