use Rattle.board_run.proofs.Common.{◌≡◌, ◌+◌, ◌<◌, ℕ, true, false, slice_get, HasAt, Put}
use Rattle.board_run.proofs.tell.set_ports.Given as goal

abbrev pub invariant-loop-i : goal.invariant-loop-i
invariant-loop-i g l = record {
  put : Put l.at l.i (g.P.Part.machine.contacts (g.P.Part.state l.part)) l.fn.nets.closed l.nets.closed;
  same : l.changed ≡ false → (j : ℕ) → j < l.i → slice_get l.fn.nets.closed (l.at + j) ≡ slice_get (g.P.Part.machine.contacts (g.P.Part.state l.part)) j;
  other : l.changed ≡ true → HasAt l.at (g.P.Part.machine.contacts (g.P.Part.state l.part)) l.fn.nets.closed → ⊥;
  rest : l.nets ≡ record l.fn.nets { closed = l.nets.closed };
}
