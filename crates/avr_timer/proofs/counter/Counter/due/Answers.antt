use Rattle.std.proofs.Common.{◌∙◌, ◌<◌, ap, arith}
use Rattle.avr_timer.specs.Timing.{tick_after}
use Rattle.avr_timer.proofs.TimingLemmas.{next_some, next_late}
use Rattle.avr_timer.proofs.counter.Counter.due.Goals as goal

pub returns-then-next-lt-MOST_CYCLES : goal.returns-then-next-lt-MOST_CYCLES
returns-then-next-lt-MOST_CYCLES c =
    let some : 0 < c.args.timing.now.divisor = omega (arith, c.if-timing-eq0.false) in
    next_some c.args.timing.now c.args.self.now c.args.cycle c.tick_after-next.result c.requires.mode c.requires.holds c.requires.begun some
    (c.tick_after-next.ensures ∙ ap (tick_after c.args.timing.now c.args.cycle) c.wait.ensures) c.if-next-lt-MOST_CYCLES.true

pub returns-else-next-lt-MOST_CYCLES : goal.returns-else-next-lt-MOST_CYCLES
returns-else-next-lt-MOST_CYCLES c =
    next_late c.args.timing.now c.args.self.now c.args.cycle c.tick_after-next.result c.requires.mode c.requires.holds c.requires.begun c.requires.end
    (c.tick_after-next.ensures ∙ ap (tick_after c.args.timing.now c.args.cycle) c.wait.ensures) c.if-next-lt-MOST_CYCLES.false
