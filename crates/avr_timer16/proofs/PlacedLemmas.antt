-- Which pins the timer asks for something.
use Rattle.std.proofs.Common.{ℕ, List}
use Rattle.sim_base.specs.declared.signal.Level.{Level}
use Rattle.avr_unit.specs.Placed.{StepMoves}
use Rattle.avr_timer.specs.Timing.{counter_step}
use Rattle.avr_timer.proofs.TimerLemmas.{not_turned}
use Rattle.avr_timer16.specs.Timer16.{Timer16, timer16, timing, mode_of}
use Rattle.avr_timer16.specs.Timer16Reach.{moved}

-- a cycle changes what it asks of the pins of outputs that it turns over
pub timer_moves : (u : Timer16) (t : ℕ) (before now : List Level) → StepMoves timer16 u t before now (moved u t)
timer_moves u t before now p less out = not_turned 9 10 (mode_of u.tccra u.tccrb) (counter_step (timing u) u.counter t) u.counter p out
