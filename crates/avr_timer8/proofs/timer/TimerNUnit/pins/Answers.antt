use Rattle.std.proofs.Common.{sym, subst}
use Rattle.part_law.specs.declared.span.Span.{Span}
use Rattle.avr_unit.specs.Placed.{Placed}
use Rattle.avr_timer8.specs.Timer8.{timer8}
use Rattle.avr_timer8.specs.Timer8Reach.{timer_placed}
use Rattle.avr_timer8.proofs.timer.TimerNUnit.pins.Goals as goal

pub returns : goal.returns
returns g c = subst (λ (s : Span). Placed (timer8 g.N.Numbered.number) s) (sym c.pins.ensures) (timer_placed g.N.Numbered.number)
