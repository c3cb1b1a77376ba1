use Rattle.std.proofs.Common.{◌≡◌, ◌∙◌, ℕ, List, Option, None, Some, ap, sym, subst}
use Rattle.std.specs.Prelude.{slice_set}
use Rattle.event_queue.specs.First.{IsFirst}
use Rattle.event_queue.specs.Places.{with_cycle}
use Rattle.event_queue.proofs.TreeLemmas.{first_of_one, same_without, without_first}
use Rattle.event_queue.proofs.due_tree.first_beside.Goals as goal

pub returns-then-j-i : goal.returns-then-j-i
returns-then-j-i c =
    let alone = c.requires.alone c.in-Some.j c.in-Some.is in
    subst (λ (x : ℕ). IsFirst (slice_set c.args.dues.now x None) None) c.if-j-i.true alone.1

pub returns-in-Some : goal.returns-in-Some
returns-in-Some c =
    let alone = c.requires.alone c.in-Some.j c.in-Some.is in
    let same = same_without c.args.dues.now c.in-Some.j alone.0 alone.1 c.args.i c.requires.part (λ e. c.if-j-i.false (sym e)) in
    subst (λ (l : List (Option ℕ)). IsFirst l c.with_cycle.result) (sym same)
    (subst (λ (o : Option (ℕ × ℕ)). IsFirst c.args.dues.now o) (sym (c.with_cycle.ensures ∙ ap with_cycle c.leaf_of.ensures)) (first_of_one c.args.dues.now c.in-Some.j alone.0 alone.1))

pub first_without-requires-clause-best : goal.first_without-requires-clause-best
first_without-requires-clause-best c = λ k a b. c.requires.best k a b (λ (j : ℕ) e. absurd (let x : None ≡ Some j = sym c.in_default.is ∙ e in cc))

pub returns : goal.returns
returns c =
    subst (λ (o : Option (ℕ × ℕ)). IsFirst (slice_set c.args.dues.now c.args.i None) o) (sym c.with_cycle-2.ensures)
    (without_first c.args.dues.now c.args.best.now c.args.i c.requires.few c.requires.part c.first_without.result c.first_without.ensures)
