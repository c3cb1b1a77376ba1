use Rattle.std.proofs.Common.{sym, subst}
use Rattle.avr_timer.specs.declared.counter.Counter.{Counter}
use Rattle.avr_timer.specs.Counted.{Holds}
use Rattle.avr_timer.proofs.CountLemmas.{tick_holds}
use Rattle.avr_timer.proofs.counter.Counter.step.Goals as goal

pub returns-then-is_tick-clause-holds : goal.returns-then-is_tick-clause-holds
returns-then-is_tick-clause-holds c =
    subst (λ (x : Counter). Holds c.args.timing.now.mode.greatest x) (sym c.tick.ensures)
    (tick_holds c.args.timing.now.mode c.args.self.now c.requires.mode c.requires.holds)
