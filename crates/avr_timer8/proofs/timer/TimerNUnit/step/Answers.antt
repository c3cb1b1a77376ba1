use Rattle.std.proofs.Common.{◌∙◌, ap, sym, subst}
use Rattle.part_law.specs.declared.span.Span.{Span}
use Rattle.part_law.specs.Spans.{IsIn}
use Rattle.avr_timer8.specs.declared.registers.Which.{Which}
use Rattle.avr_timer8.specs.Timer8Reach.{moved}
use Rattle.avr_timer8.proofs.PlacedLemmas.{timer_moves}
use Rattle.avr_timer8.proofs.timer.TimerNUnit.step.Goals as goal

pub returns-clause-pads : goal.returns-clause-pads
returns-clause-pads g c = λ p less out.
    let s = c.args.self.now.timer in
    timer_moves g.N.Numbered.number s.unit s.cycle c.args._before.now c.args._now.now p less
    (λ h. out (subst (λ (x : Span). IsIn x p) (sym (c.step.ensures.moved ∙ ap (λ (w : Which). moved w s.unit s.cycle) c.number.ensures)) h))
