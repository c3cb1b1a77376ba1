use Rattle.std.proofs.Common.{ℕ, ◌≤◌, ◌<◌, length, List, Option, subst, sym, ◌∙◌}
use Rattle.event_queue.specs.Places.{IsBest, IsPlayed, IsAlone}
use Rattle.event_queue.proofs.due_tree.DueTree.note_alone.Goals as goal

pub join-requires-clause-best : goal.join-requires-clause-best
join-requires-clause-best c =
    let i = c.self.inside in
    subst (λ (l : List (Option ℕ)). (k : ℕ) → 1 ≤ k → k < length l → IsPlayed i.alone (length l) k → IsBest (length l) l i.best k) (sym c.deref.ensures.value) c.self.invariant.best

pub join-requires-clause-alone : goal.join-requires-clause-alone
join-requires-clause-alone c = subst (λ (l : List (Option ℕ)). IsAlone c.self.inside.alone l) (sym c.deref.ensures.value) c.self.invariant.alone

pub only_due-self-inside-requires-clause-best : goal.only_due-self-inside-requires-clause-best
only_due-self-inside-requires-clause-best c =
    subst (λ (l : List (Option ℕ)). (k : ℕ) → 1 ≤ k → k < length l → IsBest (length l) l c.join.new.best k) (c.deref.ensures.value ∙ sym c.deref-then-not-is_empty.ensures.value) c.join.ensures

pub invariant_of-self : goal.invariant_of-self
invariant_of-self c = record {
  few = c.self.invariant.few;
  best = λ k a b played. subst (λ (l : List (Option ℕ)). (k : ℕ) → 1 ≤ k → k < length l → IsBest (length l) l c.join.new.best k) c.deref.ensures.value c.join.ensures k a b;
  alone = subst (λ (l : List (Option ℕ)). IsAlone c.only_due-self-inside.result l) c.deref-then-not-is_empty.ensures.value c.only_due-self-inside.ensures;
}
