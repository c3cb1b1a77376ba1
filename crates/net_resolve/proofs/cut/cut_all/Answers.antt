use Rattle.net_resolve.proofs.Common.{arith, ap, length, whole_of}
use Rattle.net_resolve.proofs.CutLemmas.{subcircuits_next}
use Rattle.net_resolve.proofs.cut.cut_all.Goals as goal

pub cut_out-requires-clause-numbers : goal.cut_out-requires-clause-numbers
cut_out-requires-clause-numbers c = omega (arith, ap length c.deref_mut.ensures.value, c.loop-q.numbers.ok.0, c.loop-q.invariant.numbers)

pub loop-q-preserved : goal.loop-q-preserved
loop-q-preserved c =
    let next = subcircuits_next (whole_of c.args.wiring.now) c.args.sorted.now.labels c.loop-q.subcircuits.items c.push.new.self.items c.loop-q.q c.in_ok-cut_out.field-0 c.in_ok-push.ensures.items
    c.loop-q.invariant.long c.loop-q.invariant.subcircuits c.in_ok-cut_out.ensures in
    record { numbers = c.loop-q.invariant.numbers; long = next.long; subcircuits = next.subcircuits }
