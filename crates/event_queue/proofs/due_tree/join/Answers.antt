use Rattle.std.proofs.Common.{◌≡◌, ◌≢◌, ◌∙◌, ℕ, ◌+◌, ◌/◌, None, Some, length, sym, subst}
use Rattle.event_queue.proofs.TreeLemmas.{some_same}
use Rattle.event_queue.proofs.due_tree.join.Goals as goal

pub replay-requires-clause-best : goal.replay-requires-clause-best
replay-requires-clause-best c = λ k a b h.
    c.requires.best k a b (λ (i : ℕ) e. subst (λ (x : ℕ). k ≢ (length c.args.dues.now + x) / 2) (some_same c.in-Some.j i (sym c.in-Some.is ∙ e)) h)

pub returns-in_default : goal.returns-in_default
returns-in_default c = λ k a b.
    c.requires.best k a b (λ (i : ℕ) e. absurd (let x : None ≡ Some i = sym c.in_default.is ∙ e in cc))
