use Rattle.std.proofs.Common.{inl, inr, sym, ap, ◌∙◌, ◌-◌, None}
use Rattle.std.specs.Prelude.{slice_get}
use Rattle.part_law.specs.Either.{either, either_drives}
use Rattle.part_either.proofs.EmbedLemmas.{glide_in, hears_in, may_out, quiet_out, left_in, right_in}
use Rattle.part_either.proofs.either.EitherPart.hear.Goals as goal

pub hear-requires-clause-quiet : goal.hear-requires-clause-quiet
hear-requires-clause-quiet g c =
    let p = c.in-Left.part in
    quiet_out g.A.Part.machine (either g.A.Part.machine g.B.Part.machine) (λ s. inl s) (left_in g.A.Part.machine g.B.Part.machine) (g.A.Part.state p) (g.A.Part.now p) (c.args.t - g.A.Part.now p) (rw c.in-Left.is at c.requires.quiet)

pub hear-requires-clause-may : goal.hear-requires-clause-may
hear-requires-clause-may g c =
    let p = c.in-Left.part in
    may_out g.A.Part.machine (either g.A.Part.machine g.B.Part.machine) (λ s. inl s) (left_in g.A.Part.machine g.B.Part.machine) (g.A.Part.state p) (g.A.Part.now p) (c.args.t - g.A.Part.now p) c.args.t _ None (rw c.in-Left.is at c.requires.may)

pub returns-in-Left-clause-hears : goal.returns-in-Left-clause-hears
returns-in-Left-clause-hears g c changed answers =
    let p = c.in-Left.part in
    rw c.in-Left.is (hears_in g.A.Part.machine (either g.A.Part.machine g.B.Part.machine) (λ s. inl s) (left_in g.A.Part.machine g.B.Part.machine) (g.A.Part.state p) (g.A.Part.state c.hear.new.self) (g.A.Part.now p) c.args.t _ changed (c.hear.ensures.hears changed answers))

pub returns-in-Left-clause-others : goal.returns-in-Left-clause-others
returns-in-Left-clause-others g c changed answers pin none =
    let p = c.in-Left.part in
    rw c.in-Left.is (c.hear.ensures.others changed answers pin none ∙ sym (ap (λ s. slice_get (either_drives g.A.Part.machine g.B.Part.machine s) pin) (glide_in g.A.Part.machine (either g.A.Part.machine g.B.Part.machine) (λ s. inl s) (left_in g.A.Part.machine g.B.Part.machine) (g.A.Part.state p) (g.A.Part.now p) (c.args.t - g.A.Part.now p))))

pub hear-requires-in-Right-clause-quiet : goal.hear-requires-in-Right-clause-quiet
hear-requires-in-Right-clause-quiet g c =
    let p = c.in-Right.part in
    quiet_out g.B.Part.machine (either g.A.Part.machine g.B.Part.machine) (λ s. inr s) (right_in g.A.Part.machine g.B.Part.machine) (g.B.Part.state p) (g.B.Part.now p) (c.args.t - g.B.Part.now p) (rw c.in-Right.is at c.requires.quiet)

pub hear-requires-in-Right-clause-may : goal.hear-requires-in-Right-clause-may
hear-requires-in-Right-clause-may g c =
    let p = c.in-Right.part in
    may_out g.B.Part.machine (either g.A.Part.machine g.B.Part.machine) (λ s. inr s) (right_in g.A.Part.machine g.B.Part.machine) (g.B.Part.state p) (g.B.Part.now p) (c.args.t - g.B.Part.now p) c.args.t _ None (rw c.in-Right.is at c.requires.may)

pub returns-in-Right-clause-hears : goal.returns-in-Right-clause-hears
returns-in-Right-clause-hears g c changed answers =
    let p = c.in-Right.part in
    rw c.in-Right.is (hears_in g.B.Part.machine (either g.A.Part.machine g.B.Part.machine) (λ s. inr s) (right_in g.A.Part.machine g.B.Part.machine) (g.B.Part.state p) (g.B.Part.state c.hear-in-Right.new.self) (g.B.Part.now p) c.args.t _ changed (c.hear-in-Right.ensures.hears changed answers))

pub returns-in-Right-clause-others : goal.returns-in-Right-clause-others
returns-in-Right-clause-others g c changed answers pin none =
    let p = c.in-Right.part in
    rw c.in-Right.is (c.hear-in-Right.ensures.others changed answers pin none ∙ sym (ap (λ s. slice_get (either_drives g.A.Part.machine g.B.Part.machine s) pin) (glide_in g.B.Part.machine (either g.A.Part.machine g.B.Part.machine) (λ s. inr s) (right_in g.A.Part.machine g.B.Part.machine) (g.B.Part.state p) (g.B.Part.now p) (c.args.t - g.B.Part.now p))))
