use Rattle.std.proofs.Common.{◌≡◌, drop}
use Rattle.std.specs.Prelude.{◌||◌}
use Rattle.board_model.specs.Resolve.{contact_joins}
use Rattle.net_reference.proofs.plain.is_closed_over.Given as goal

abbrev pub invariant-loop-i : goal.invariant-loop-i
invariant-loop-i l = (l.found || contact_joins (drop l.i l.contacts) (drop l.i l.closed) l.n l.m) ≡ contact_joins l.contacts l.closed l.n l.m
