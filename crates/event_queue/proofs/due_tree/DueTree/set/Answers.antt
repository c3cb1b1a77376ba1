use Rattle.std.proofs.Common.{◌≡◌, ◌≢◌, ◌∙◌, ◌≤◌, ◌<◌, ◌+◌, ◌/◌, length, length-set, subst, sym, List, ℕ, Option, Some, None}
use Rattle.std.specs.Prelude.{slice_set}
use Rattle.std.proofs.lemmas.Bool.{and_parts}
use Rattle.event_queue.specs.First.{IsFirst}
use Rattle.event_queue.specs.Places.{IsBest}
use Rattle.event_queue.proofs.TreeLemmas.{some_same, set_best, still_alone}
use Rattle.event_queue.proofs.due_tree.DueTree.set.Goals as goal

pub invariant_of-self : goal.invariant_of-self
invariant_of-self c =
    let i = c.self.inside in
    let is : i.alone ≡ Some c.args.i = c.is_part.ensures c.if-is_part.true in
    let long = length-set i.dues.items c.args.i c.args.due in
    record {
      few = subst (λ n. n ≤ 64) (sym long) c.self.invariant.few;
      best = λ k a b played.
          set_best i.dues.items i.best c.args.i c.args.due
          (λ j x y above. c.self.invariant.best j x y (λ (p : ℕ) e. subst (λ (q : ℕ). j ≢ (length i.dues.items + q) / 2) (some_same c.args.i p (sym is ∙ e)) above))
          k a b (played c.args.i is);
      alone = λ j e.
          let old = c.self.invariant.alone c.args.i is in
          let same : c.args.i ≡ j = some_same c.args.i j (sym is ∙ e) in (
            subst (λ (n : ℕ). j < n) (sym long) (subst (λ (x : ℕ). x < length i.dues.items) same old.0),
            subst (λ (x : ℕ). IsFirst (slice_set (slice_set i.dues.items c.args.i c.args.due) x None) None) same (still_alone i.dues.items c.args.i old.0 old.1 c.args.due),
          );
    }

pub replay-requires-clause-best : goal.replay-requires-clause-best
replay-requires-clause-best c =
    let i = c.self.inside in
    let none = c.is_none_alone.ensures (and_parts _ _ c.if-is_some-is_none_alone.true).1 in
    let all : (k : ℕ) → 1 ≤ k → k < length i.dues.items → IsBest (length i.dues.items) i.dues.items i.best k =
    λ k a b. c.self.invariant.best k a b (λ (j : ℕ) e. absurd (let x : None ≡ Some j = sym none ∙ e in cc)) in
    subst (λ (l : List (Option ℕ)). (k : ℕ) → 1 ≤ k → k < length l → k ≢ (length l + c.args.i) / 2 → IsBest (length l) l i.best k) (sym c.deref.ensures.value)
    (set_best i.dues.items i.best c.args.i c.args.due (λ k a b above. all k a b))

pub invariant_of-self-then-is_some-is_none_alone : goal.invariant_of-self-then-is_some-is_none_alone
invariant_of-self-then-is_some-is_none_alone c =
    let i = c.self.inside in
    let none = c.is_none_alone.ensures (and_parts _ _ c.if-is_some-is_none_alone.true).1 in
    record {
      few = subst (λ n. n ≤ 64) (sym (length-set i.dues.items c.args.i c.args.due)) c.self.invariant.few;
      best = λ k a b played.
          subst (λ (l : List (Option ℕ)). (k : ℕ) → 1 ≤ k → k < length l → IsBest (length l) l c.replay.new.best k) c.deref.ensures.value c.replay.ensures k a b;
      alone = λ j e. absurd (let x : None ≡ Some j = sym none ∙ e in cc);
    }
