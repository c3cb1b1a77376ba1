use Rattle.std.proofs.Common.{◌≡◌, ◌≢◌, ◌∙◌, ◌≤◌, ◌<◌, ◌+◌, ◌/◌, length, length-set, subst, sym, List, ℕ, Option, Some, None}
use Rattle.event_queue.specs.Places.{IsBest, IsPlayed, IsAlone}
use Rattle.event_queue.proofs.TreeLemmas.{set_best}
use Rattle.event_queue.proofs.due_tree.DueTree.renew.Goals.{then-is_some, else-is_some}
use Rattle.event_queue.proofs.due_tree.DueTree.renew.Goals as goal

pub join-requires-clause-best : goal.join-requires-clause-best
join-requires-clause-best c =
    let i = c.self.inside in
    subst (λ (l : List (Option ℕ)). (k : ℕ) → 1 ≤ k → k < length l → IsPlayed i.alone (length l) k → IsBest (length l) l i.best k) (sym c.deref.ensures.value) c.self.invariant.best

pub join-requires-clause-alone : goal.join-requires-clause-alone
join-requires-clause-alone c = subst (λ (l : List (Option ℕ)). IsAlone c.self.inside.alone l) (sym c.deref.ensures.value) c.self.invariant.alone

pub replay-requires-clause-best : goal.replay-requires-clause-best
replay-requires-clause-best c =
    let i = c.self.inside in
    let all : (k : ℕ) → 1 ≤ k → k < length i.dues.items → IsBest (length i.dues.items) i.dues.items c.join.new.best k =
    subst (λ (l : List (Option ℕ)). (k : ℕ) → 1 ≤ k → k < length l → IsBest (length l) l c.join.new.best k) c.deref.ensures.value c.join.ensures in
    subst (λ (l : List (Option ℕ)). (k : ℕ) → 1 ≤ k → k < length l → k ≢ (length l + c.args.i) / 2 → IsBest (length l) l c.join.new.best k) (sym c.deref-2.ensures.value)
    (set_best i.dues.items c.join.new.best c.args.i c.args.due (λ k a b above. all k a b))

pub only_due-self-inside-requires-clause-best : goal.only_due-self-inside-requires-clause-best
only_due-self-inside-requires-clause-best c =
    subst (λ (l : List (Option ℕ)). (k : ℕ) → 1 ≤ k → k < length l → IsBest (length l) l c.replay.new.best k) (c.deref-2.ensures.value ∙ sym c.deref-else-is_some.ensures.value) c.replay.ensures

pub invariant_of-self : goal.invariant_of-self
invariant_of-self c =
    let i = c.self.inside in
    record {
      few = subst (λ n. n ≤ 64) (sym (length-set i.dues.items c.args.i c.args.due)) c.self.invariant.few;
      best = λ k a b played.
          subst (λ (l : List (Option ℕ)). (k : ℕ) → 1 ≤ k → k < length l → IsBest (length l) l c.replay.new.best k) c.deref-2.ensures.value c.replay.ensures k a b;
      alone = elim c.if-is_some.branch [
        | then-is_some w ↦ λ j e. absurd (let x : None ≡ Some j = sym w.self-is ∙ e in cc)
        | else-is_some w ↦ λ j e.
            subst (λ (l : List (Option ℕ)). IsAlone w.only_due-self-inside.result l) w.deref-else-is_some.ensures.value w.only_due-self-inside.ensures j (sym w.self-is ∙ e)
      ];
    }
