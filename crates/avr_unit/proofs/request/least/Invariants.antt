use Rattle.std.proofs.Common.{◌≡◌, ◌≤◌, length, drop}
use Rattle.avr_unit.specs.UnitMachine.{least}
use Rattle.avr_unit.proofs.request.least.Given as goal

abbrev pub invariant-loop-i : goal.invariant-loop-i
invariant-loop-i l = (l.i ≤ length l.requests) × (l.vector ≡ least (drop l.i l.requests))

abbrev pub decreases-loop-i : goal.decreases-loop-i
decreases-loop-i l = l.i
