use Rattle.board_model.proofs.Lists.{Filled}
use Rattle.net_resolve.proofs.PlaceLemmas.{IsFrom}
use Rattle.net_resolve.proofs.subcircuit.gather.Given as goal

abbrev pub invariant-loop-j : goal.invariant-loop-j
invariant-loop-j g l = Filled (IsFrom l.from) l.j l.places l.into
