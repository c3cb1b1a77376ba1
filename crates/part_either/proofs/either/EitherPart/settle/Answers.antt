use Rattle.std.proofs.Common.{inl, inr, sym, ◌-◌}
use Rattle.part_law.specs.Either.{either}
use Rattle.part_either.proofs.EmbedLemmas.{glide_in, quiet_out, left_in, right_in}
use Rattle.part_either.proofs.either.EitherPart.settle.Goals as goal

pub settle-requires-clause-quiet : goal.settle-requires-clause-quiet
settle-requires-clause-quiet g c =
    let p = c.in-Left.part in
    quiet_out g.A.Part.machine (either g.A.Part.machine g.B.Part.machine) (λ s. inl s) (left_in g.A.Part.machine g.B.Part.machine) (g.A.Part.state p) (g.A.Part.now p) (c.args.to - g.A.Part.now p) (rw c.in-Left.is at c.requires.quiet)

pub returns-in-Left-clause-state : goal.returns-in-Left-clause-state
returns-in-Left-clause-state g c =
    let p = c.in-Left.part in
    rw (c.in-Left.is, c.settle.ensures.state) (sym (glide_in g.A.Part.machine (either g.A.Part.machine g.B.Part.machine) (λ s. inl s) (left_in g.A.Part.machine g.B.Part.machine) (g.A.Part.state p) (g.A.Part.now p) (c.args.to - g.A.Part.now p)))

pub settle-requires-in-Right-clause-quiet : goal.settle-requires-in-Right-clause-quiet
settle-requires-in-Right-clause-quiet g c =
    let p = c.in-Right.part in
    quiet_out g.B.Part.machine (either g.A.Part.machine g.B.Part.machine) (λ s. inr s) (right_in g.A.Part.machine g.B.Part.machine) (g.B.Part.state p) (g.B.Part.now p) (c.args.to - g.B.Part.now p) (rw c.in-Right.is at c.requires.quiet)

pub returns-in-Right-clause-state : goal.returns-in-Right-clause-state
returns-in-Right-clause-state g c =
    let p = c.in-Right.part in
    rw (c.in-Right.is, c.settle-in-Right.ensures.state) (sym (glide_in g.B.Part.machine (either g.A.Part.machine g.B.Part.machine) (λ s. inr s) (right_in g.A.Part.machine g.B.Part.machine) (g.B.Part.state p) (g.B.Part.now p) (c.args.to - g.B.Part.now p)))
