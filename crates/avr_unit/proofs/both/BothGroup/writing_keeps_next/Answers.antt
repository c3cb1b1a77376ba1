use Rattle.std.proofs.Common.{◌∙◌, inl, inr, sym}
use Rattle.std.proofs.lemmas.Bool.{and_parts}
use Rattle.avr_unit.proofs.NextLemmas.{both_writes}
use Rattle.avr_unit.proofs.both.BothGroup.writing_keeps_next.Goals as goal

pub returns-then-has-2 : goal.returns-then-has-2
returns-then-has-2 g c = λ h.
    let each = and_parts _ _ h in
    both_writes g.U.Unit.machine g.G.Group.machine c.args.reg (inr (c.writing_keeps_next.ensures each.0)) (inr (c.writing_keeps_next-then-has-2.ensures each.1))

pub returns-else-has-2 : goal.returns-else-has-2
returns-else-has-2 g c = λ h.
    both_writes g.U.Unit.machine g.G.Group.machine c.args.reg (inr (c.writing_keeps_next-else-has-2.ensures h)) (inl (sym c.has-then-has.ensures ∙ c.if-has-2.false))

pub returns-else-has : goal.returns-else-has
returns-else-has g c = λ h.
    both_writes g.U.Unit.machine g.G.Group.machine c.args.reg (inl (sym c.has.ensures ∙ c.if-has.false)) (inr (c.writing_keeps_next-else-has.ensures h))
