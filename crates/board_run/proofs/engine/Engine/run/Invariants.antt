use Rattle.board_run.proofs.Common.{◌-◌, ◌≤◌, Showed}
use Rattle.sim_base.specs.declared.bench.WriteEnd.TheVariants as writes
use Rattle.board_run.proofs.engine.Engine.run.Given as goal

abbrev pub invariant-loop-self : goal.invariant-loop-self
invariant-loop-self g l = record {
  within : l.self.cycle ≤ l.n;
  showed : Showed g.P.Part g.W.Watcher writes.Ok l.fn.self l.self l.fn.steps l.steps l.fn.out l.out;
}

abbrev pub decreases-loop-self : goal.decreases-loop-self
decreases-loop-self g l = l.n - l.self.cycle
