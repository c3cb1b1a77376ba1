use Rattle.std.proofs.Common.{sym, subst}
use Rattle.part_law.specs.declared.span.Span.{Span}
use Rattle.part_law.specs.Spans.{IsIn}
use Rattle.avr_timer16.proofs.PlacedLemmas.{timer_moves}
use Rattle.avr_timer16.proofs.timer16.Timer16Unit.step.Goals as goal

pub returns-clause-pads : goal.returns-clause-pads
returns-clause-pads c = λ p less out.
    let s = c.args.self.now in
    timer_moves s.unit s.cycle c.args._before.now c.args._now.now p less
    (λ h. out (subst (λ (x : Span). IsIn x p) (sym c.turn.ensures.moved) h))
