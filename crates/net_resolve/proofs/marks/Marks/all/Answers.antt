use Rattle.net_resolve.proofs.Common.{◌∙◌, ◌≢◌, ap, arith, inl, inr, MarksView, has, lt_or_eq}
use Rattle.net_resolve.proofs.MarkLemmas.{with_has, with_other}
use Rattle.net_resolve.proofs.marks.Marks.all.Goals as goal

pub loop-n-preserved : goal.loop-n-preserved
loop-n-preserved c =
    record {
      room = ap (λ (m : MarksView). m.room) c.mark.ensures ∙ c.loop-n.invariant.room;
      done = λ m l. ap (λ (v : MarksView). has v.marked m) c.mark.ensures ∙ elim (lt_or_eq m c.loop-n.n l) [
        | inl less ↦ let other : m ≢ c.loop-n.n = omega arith in with_other c.loop-n.marks.marked c.loop-n.n m other ∙ c.loop-n.invariant.done m less
        | inr here ↦ ap (has _) here ∙ with_has c.loop-n.marks.marked c.loop-n.n
      ];
    }
