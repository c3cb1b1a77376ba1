use Rattle.std.proofs.Common.{◌≤◌, ◌-◌}
use Rattle.board_twin.specs.Beside.{Abreast, view_of}
use Rattle.board_twin.proofs.beside.Beside.run.Given as goal

abbrev pub invariant-loop-self : goal.invariant-loop-self
invariant-loop-self g l = record {
  within : l.self.board.cycle ≤ l.n;
  abreast : Abreast g.P.Part (view_of l.fn.self) l.self l.fn.steps l.steps;
}

abbrev pub decreases-loop-self : goal.decreases-loop-self
decreases-loop-self g l = l.n - l.self.board.cycle
