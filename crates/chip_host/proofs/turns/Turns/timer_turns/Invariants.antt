use Rattle.std.proofs.Common.{◌≡◌, false}
use Rattle.chip_host.specs.Chip.{timer_turns}
use Rattle.chip_host.proofs.turns.Turns.timer_turns.Given as goal

abbrev pub invariant-loop-id : goal.invariant-loop-id
invariant-loop-id l = (l.self ≡ record l.fn.self { chip = timer_turns l.fn.self.chip l.fn.self.cycle l.id }) × (l.called ≡ false → l.self ≡ l.fn.self)
