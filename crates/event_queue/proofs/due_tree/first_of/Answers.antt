use Rattle.std.proofs.Common.{◌≡◌, ◌≢◌, ◌∙◌, ◌+◌, ◌/◌, ◌≤◌, ℕ, Option, None, Some, length, ap, sym, subst, refl, arith}
use Rattle.std.proofs.lemmas.Bool.Decides.{nat_tests}
use Rattle.event_queue.specs.First.{IsFirst}
use Rattle.event_queue.specs.Places.{with_cycle}
use Rattle.event_queue.proofs.TreeLemmas.{first_is, first_of_one}
use Rattle.event_queue.proofs.due_tree.first_of.Goals as goal

pub returns-in-Some : goal.returns-in-Some
returns-in-Some c =
    let alone = c.requires.alone c.in-Some.j c.in-Some.is in
    subst (λ (o : Option (ℕ × ℕ)). IsFirst c.args.dues.now o) (sym (c.with_cycle.ensures ∙ ap with_cycle c.leaf_of.ensures)) (first_of_one c.args.dues.now c.in-Some.j alone.0 alone.1)

pub returns : goal.returns
returns c =
    let some : 1 ≤ length c.args.dues.now = grind (arith, c.if-is_empty.ensures, nat_tests) in
    let none : (k : ℕ) → (j : ℕ) → c.args.alone ≡ Some j → k ≢ (length c.args.dues.now + j) / 2 = λ k j e. absurd (let x : None ≡ Some j = sym c.in_default.is ∙ e in cc) in
    subst (λ (o : Option (ℕ × ℕ)). IsFirst c.args.dues.now o) (sym (c.with_cycle-2.ensures ∙ ap with_cycle c.at.ensures))
    (first_is (length c.args.dues.now) c.args.dues.now c.args.best.now (λ k a b. c.requires.best k a b (none k)) refl some)
