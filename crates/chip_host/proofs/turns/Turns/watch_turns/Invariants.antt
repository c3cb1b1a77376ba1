use Rattle.std.proofs.Common.{◌≡◌, false}
use Rattle.chip_host.specs.Chip.{watch_turns}
use Rattle.chip_host.proofs.turns.Turns.watch_turns.Given as goal

abbrev pub invariant-loop-i : goal.invariant-loop-i
invariant-loop-i l = (l.self ≡ record l.fn.self { chip = watch_turns l.fn.self.chip l.fn.self.cycle l.fn.self.before l.i }) × (l.called ≡ false → l.self ≡ l.fn.self)
