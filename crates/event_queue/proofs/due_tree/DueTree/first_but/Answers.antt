use Rattle.std.proofs.Common.{◌≤◌, ◌<◌, length, sym, subst, List, ℕ, Option, None}
use Rattle.std.specs.Prelude.{slice_set}
use Rattle.event_queue.specs.First.{IsFirst}
use Rattle.event_queue.specs.Places.{IsBest, IsPlayed, IsAlone}
use Rattle.event_queue.proofs.due_tree.DueTree.first_but.Goals as goal

pub first_beside-requires-clause-best : goal.first_beside-requires-clause-best
first_beside-requires-clause-best c =
    let i = c.self.inside in
    subst (λ (l : List (Option ℕ)). (k : ℕ) → 1 ≤ k → k < length l → IsPlayed i.alone (length l) k → IsBest (length l) l i.best k) (sym c.deref.ensures.value) c.self.invariant.best

pub first_beside-requires-clause-alone : goal.first_beside-requires-clause-alone
first_beside-requires-clause-alone c = subst (λ (l : List (Option ℕ)). IsAlone c.self.inside.alone l) (sym c.deref.ensures.value) c.self.invariant.alone

pub returns-clause-first : goal.returns-clause-first
returns-clause-first c =
    subst (λ (l : List (Option ℕ)). IsFirst (slice_set l c.args.i None) c.first_beside.result) c.self.view_is
    (subst (λ (l : List (Option ℕ)). IsFirst (slice_set l c.args.i None) c.first_beside.result) c.deref.ensures.value c.first_beside.ensures)
