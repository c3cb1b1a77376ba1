use Rattle.std.proofs.Common.{◌≡◌, length}
use Rattle.live_request.specs.Addresses.{are_addresses}
use Rattle.live_request.specs.Rests.{words_left}
use Rattle.live_request.proofs.addresses.are_addresses.Given as goal

abbrev pub invariant-loop-rest : goal.invariant-loop-rest
invariant-loop-rest l = are_addresses (words_left l.rest) ≡ are_addresses (words_left l.fn.rest)

abbrev pub decreases-loop-rest : goal.decreases-loop-rest
decreases-loop-rest l = length (words_left l.rest)
