use Rattle.std.proofs.Common.{inl, inr}
use Rattle.part_law.specs.Either.{either}
use Rattle.part_either.proofs.EmbedLemmas.{first_in, left_in, right_in}
use Rattle.part_either.proofs.either.EitherPart.due.Goals as goal

pub returns-in-Left : goal.returns-in-Left
returns-in-Left g c =
    let p = c.in-Left.part in
    rw c.in-Left.is (first_in g.A.Part.machine (either g.A.Part.machine g.B.Part.machine) (λ s. inl s) (left_in g.A.Part.machine g.B.Part.machine) (g.A.Part.state p) (g.A.Part.now p) _ c.due.ensures)

pub returns-in-Right : goal.returns-in-Right
returns-in-Right g c =
    let p = c.in-Right.part in
    rw c.in-Right.is (first_in g.B.Part.machine (either g.A.Part.machine g.B.Part.machine) (λ s. inr s) (right_in g.A.Part.machine g.B.Part.machine) (g.B.Part.state p) (g.B.Part.now p) _ c.due-in-Right.ensures)
