use Rattle.board_model.proofs.Lists.{Filled}
use Rattle.net_resolve.proofs.PlaceLemmas.{IsFrom}
use Rattle.net_resolve.proofs.resolution.are_closed_as_kept.Given as goal

abbrev pub invariant-loop-j : goal.invariant-loop-j
invariant-loop-j l = Filled (IsFrom l.closed) l.j l.contacts l.kept
