use Rattle.net_resolve.proofs.Common.{◌∙◌, ap, sym, arith, false, Some, slice_get, MarksView, has, get_replicate}
use Rattle.net_resolve.proofs.marks.Marks.new.Goals as goal

pub invariant_of-result : goal.invariant_of-result
invariant_of-result c =
    let count = c.in_ok-no_flags.ensures.len in
    record {
      room = omega (arith, count, ap (λ (m : MarksView). m.room) c.in_ok-new.ensures);
      flagged = λ n l. ap (λ fs. slice_get fs n) c.in_ok-no_flags.ensures.items ∙ get_replicate false c.args.room n (omega (arith, l, count)) ∙ ap (λ (m : MarksView). Some (has m.marked n)) (sym c.in_ok-new.ensures);
    }
