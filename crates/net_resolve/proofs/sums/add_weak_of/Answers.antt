use Rattle.net_resolve.proofs.Common.{◌∙◌, refl, sym, ap, get_or, Level, sum_at, weak_level, together}
use Rattle.net_resolve.proofs.SumLemmas.{sum_set, added_one}
use Rattle.net_resolve.proofs.sums.add_weak_of.Goals as goal

-- on a loose net it adds to the net's area
pub returns-then-is_net_loose : goal.returns-then-is_net_loose
returns-then-is_net_loose c = λ a.
    let k = get_or c.args.areas.now c.args.net 0 in
    rw (added_one, sym c.if-is_net_loose.ensures) (sum_set c.args.sums.now k a c.sum.result (weak_level c.args.drive) c.requires.area
    (c.sum.ensures ∙ ap (λ (x : Level). together (sum_at c.args.sums.now k) x) c.weak.ensures))

-- on a net with a strong value it does not
pub returns-else-is_net_loose : goal.returns-else-is_net_loose
returns-else-is_net_loose c = λ a. rw (added_one, sym c.if-is_net_loose.ensures) refl
