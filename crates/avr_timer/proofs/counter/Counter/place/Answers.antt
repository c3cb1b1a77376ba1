use Rattle.std.proofs.Common.{sym, ◌∙◌}
use Rattle.avr_timer.proofs.CountLemmas.{back_low}
use Rattle.avr_timer.proofs.counter.Counter.place.Goals as goal

pub overflow_sub-result : goal.overflow_sub-result
overflow_sub-result c =
    back_low c.args.mode.now c.args.self.now c.args.ticks c.requires.quiet (sym c.is_back.ensures ∙ c.if-is_back.true) (λ z. c.if-top-eq0.false (c.top.ensures ∙ z))
