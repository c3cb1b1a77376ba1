use Rattle.net_resolve.proofs.Common.{◌∙◌, refl, ap, sym, not, get_or, slice_index, sum_at}
use Rattle.net_resolve.proofs.SumLemmas.{sum_set, both_same}
use Rattle.net_resolve.proofs.sums.add_over.Goals as goal

pub returns-then-from_driven-to_loose : goal.returns-then-from_driven-to_loose
returns-then-from_driven-to_loose c = λ a.
    let x = sum_at c.args.strong.now (slice_index c.args.groups.now c.args.from) in
    let test = sym (both_same (ap not c.is_net_loose-from_driven.ensures) c.is_net_loose-to_loose.ensures) ∙ c.if-from_driven-to_loose.true in
    rw test (sum_set c.args.sums.now (get_or c.args.areas.now c.args.to 0) a c.sum.result x c.requires.area c.sum.ensures)

pub returns-else-from_driven-to_loose : goal.returns-else-from_driven-to_loose
returns-else-from_driven-to_loose c = λ a.
    rw (sym (both_same (ap not c.is_net_loose-from_driven.ensures) c.is_net_loose-to_loose.ensures) ∙ c.if-from_driven-to_loose.false) refl
