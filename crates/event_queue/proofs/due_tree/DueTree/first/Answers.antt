use Rattle.std.proofs.Common.{◌≤◌, ◌<◌, length, sym, subst, List, ℕ, Option}
use Rattle.event_queue.specs.First.{IsFirst}
use Rattle.event_queue.specs.Places.{IsBest, IsPlayed, IsAlone}
use Rattle.event_queue.proofs.due_tree.DueTree.first.Goals as goal

pub first_of-requires-clause-best : goal.first_of-requires-clause-best
first_of-requires-clause-best c =
    let i = c.self.inside in
    subst (λ (l : List (Option ℕ)). (k : ℕ) → 1 ≤ k → k < length l → IsPlayed i.alone (length l) k → IsBest (length l) l i.best k) (sym c.deref.ensures.value) c.self.invariant.best

pub first_of-requires-clause-alone : goal.first_of-requires-clause-alone
first_of-requires-clause-alone c = subst (λ (l : List (Option ℕ)). IsAlone c.self.inside.alone l) (sym c.deref.ensures.value) c.self.invariant.alone

pub returns : goal.returns
returns c =
    subst (λ (l : List (Option ℕ)). IsFirst l c.first_of.result) c.self.view_is (subst (λ (l : List (Option ℕ)). IsFirst l c.first_of.result) c.deref.ensures.value c.first_of.ensures)
