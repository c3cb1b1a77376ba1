use Rattle.std.proofs.Common.{◌≤◌, ◌<◌, ◌∙◌, ◌/◌, refl, subst, length, length-set, arith, inl, inr}
use Rattle.event_queue.specs.declared.entry.Entry.{Entry}
use Rattle.event_queue.specs.Places.{IsNotAfter}
use Rattle.event_queue.proofs.TreeLemmas.{played}
use Rattle.event_queue.proofs.due_tree.replay.Goals as goal

pub loop-place-preserved : goal.loop-place-preserved
loop-place-preserved c =
    let i = c.loop-place.invariant in
    let p = c.loop-place.place / 2 in
    let more = c.loop-place-test.true in
    let there = i.there in
    let some : 1 ≤ p = omega (arith, more) in
    let inner : p < length c.args.dues.now = omega (arith, there) in
    let e = c.earlier.result in
    let dues = c.args.dues.now in
    let best = c.loop-place.best in
    let left = c.at-left.ensures in
    let right = c.at-right.ensures in
    record {
      some = some;
      there = omega (arith, there);
      long = length-set best p e ∙ i.long;
      best = played (length dues) c.requires.few dues best i.long p some inner e c.loop-place.place refl
          (elim c.earlier.ensures.one [
            | inl x ↦ inl (x ∙ left)
            | inr x ↦ inr (x ∙ right)
          ])
          (subst (λ (x : Entry). IsNotAfter e x) left c.earlier.ensures.first)
          (subst (λ (x : Entry). IsNotAfter e x) right c.earlier.ensures.second) i.best;
    }

pub returns : goal.returns
returns c = λ k a b.
    let low = c.loop-place-test.false in
    c.loop-place.invariant.best k a b (omega (arith, low, a))
