-- Which pins the timers ask for something.
use Rattle.std.proofs.Common.{ℕ, List}
use Rattle.sim_base.specs.declared.signal.Level.{Level}
use Rattle.avr_unit.specs.Placed.{StepMoves}
use Rattle.avr_timer.specs.Timing.{counter_step}
use Rattle.avr_timer.proofs.TimerLemmas.{not_turned}
use Rattle.avr_timer8.specs.declared.registers.Which.{Which}
use Rattle.avr_timer8.specs.Timer8.{Timer8, timer8, timing, mode_of, pin_a, pin_b}
use Rattle.avr_timer8.specs.Timer8Reach.{moved}

-- a cycle changes what it asks of the pins of outputs that it turns over
pub timer_moves : (w : Which) (u : Timer8) (t : ℕ) (before now : List Level) → StepMoves (timer8 w) u t before now (moved w u t)
timer_moves w u t before now p less out = not_turned (pin_a w) (pin_b w) (mode_of u.tccra u.tccrb) (counter_step (timing w u) u.counter t) u.counter p out
