use Rattle.std.proofs.Common.{◌∙◌, ◌≤◌, ℕ, ap, sym, subst, arith}
use Rattle.avr_timer.specs.declared.counter.Counter.{Counter}
use Rattle.avr_timer.specs.Counted.{Holds, wait, counted}
use Rattle.avr_timer.proofs.TimingLemmas.{glides, glides_short, steps_hold}
use Rattle.avr_timer.proofs.counter.Counter.skip.Goals as goal

pub overflow_cast-ticks : goal.overflow_cast-ticks
overflow_cast-ticks c =
    omega (arith, c.passed-ticks.ensures, glides_short c.args.timing.now c.args.self.now c.args.from c.args.to c.requires.mode c.requires.holds c.requires.begun c.requires.forward c.requires.still)

pub glide-requires-clause-quiet : goal.glide-requires-clause-quiet
glide-requires-clause-quiet c =
    subst (λ (x : ℕ). x ≤ wait c.args.timing.now.mode c.args.self.now) (sym c.passed-ticks.ensures)
    (glides c.args.timing.now c.args.self.now c.args.from c.args.to c.requires.mode c.requires.holds c.requires.begun c.requires.forward c.requires.still).0

pub returns-clause-state : goal.returns-clause-state
returns-clause-state c =
    c.glide.ensures ∙ ap (counted c.args.timing.now.mode c.args.self.now) c.passed-ticks.ensures
    ∙ (glides c.args.timing.now c.args.self.now c.args.from c.args.to c.requires.mode c.requires.holds c.requires.begun c.requires.forward c.requires.still).1

pub returns-clause-holds : goal.returns-clause-holds
returns-clause-holds c =
    subst (λ (x : Counter). Holds c.args.timing.now.mode.greatest x) (sym (returns-clause-state c))
    (steps_hold c.args.timing.now c.args.self.now c.args.from _ c.requires.mode c.requires.holds c.requires.begun)
