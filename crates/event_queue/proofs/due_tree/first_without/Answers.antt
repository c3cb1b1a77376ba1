use Rattle.std.proofs.Common.{◌≡◌, ◌∙◌, subst, arith, inl, inr, ℕ}
use Rattle.event_queue.specs.declared.entry.Entry.{Entry}
use Rattle.event_queue.specs.Places.{IsNotAfter, IsWithout}
use Rattle.event_queue.proofs.TreeLemmas.{start_without, up_without}
use Rattle.event_queue.proofs.due_tree.first_without.Goals as goal

pub loop-place-init : goal.loop-place-init
loop-place-init c =
    let low = c.requires.part in
    record {
      some = omega (arith, low);
      there = omega (arith, low);
      found = start_without c.args.dues.now c.args.best.now c.args.i low c.told-best c.requires.best;
    }

pub loop-place-preserved : goal.loop-place-preserved
loop-place-preserved c =
    let i = c.loop-place.invariant in
    let more = c.loop-place-test.true in
    let there = i.there in
    let e = c.earlier-found.result in
    let at = c.at.ensures in
    record {
      some = omega (arith, more);
      there = omega (arith, there);
      found = up_without c.args.dues.now c.args.best.now c.args.i c.loop-place.place c.beside.result c.loop-place.found e c.requires.few more there c.beside.ensures
          (elim c.earlier-found.ensures.one [
            | inl x ↦ inl x
            | inr x ↦ inr (x ∙ at)
          ])
          c.earlier-found.ensures.first
          (subst (λ (x : Entry). IsNotAfter c.earlier-found.result x) at c.earlier-found.ensures.second)
          i.found;
    }

pub returns : goal.returns
returns c =
    let i = c.loop-place.invariant in
    let some = i.some in
    let low = c.loop-place-test.false in
    let one : c.loop-place.place ≡ 1 = omega (arith, some, low) in
    subst (λ (k : ℕ). IsWithout c.args.dues.now c.args.best.now c.args.i k c.loop-place.found) one i.found
