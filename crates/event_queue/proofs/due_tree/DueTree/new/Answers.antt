use Rattle.std.proofs.Common.{ap, sym, subst, List, ℕ, Option, None, length, arith}
use Rattle.std.specs.Prelude.{replicate}
use Rattle.std.proofs.lemmas.List.{length-replicate}
use Rattle.event_queue.specs.declared.entry.Entry.{Entry}
use Rattle.event_queue.specs.Places.{IsBest, no_entry}
use Rattle.event_queue.proofs.TreeLemmas.{best_none}
use Rattle.event_queue.proofs.due_tree.DueTree.new.Goals as goal

pub invariant_of-result : goal.invariant_of-result
invariant_of-result c =
    let dues = c.in_ok-no_dues.ensures in
    record {
      few = (let l = ap length dues in let m = length-replicate {A = Option ℕ} c.args.n None in let h = c.requires in omega (arith, l, m, h));
      best = λ k a b played. subst (λ (l : List (Option ℕ)). IsBest (length l) l c.no_entries.result k) (sym dues)
          (subst (λ (es : List Entry). IsBest (length (replicate {A = Option ℕ} c.args.n None)) (replicate c.args.n None) es k) (sym c.no_entries.ensures)
          (subst (λ (m : ℕ). IsBest m (replicate {A = Option ℕ} c.args.n None) (replicate 64 no_entry) k) (sym (length-replicate {A = Option ℕ} c.args.n None)) (best_none c.args.n k)));
      alone = λ j e. absurd cc;
    }
