use Rattle.net_resolve.proofs.Common.{◌≡◌, map, take, slice_index}
use Rattle.net_resolve.proofs.cut.own_nets.Given as goal

abbrev pub invariant-loop-j : goal.invariant-loop-j
invariant-loop-j l = l.own.items ≡ map (λ k. slice_index l.numbers (slice_index l.net_of k)) (take l.j l.pins)
