use Rattle.std.proofs.Common.{◌≡◌, ◌++◌, drop}
use Rattle.board_build.specs.Inside.{inside_of}
use Rattle.board_build.specs.Pins.{pairs_inside}
use Rattle.board_build.proofs.wiring.add_inside.Given as goal

abbrev pub invariant-loop-i : goal.invariant-loop-i
invariant-loop-i l =
    l.list ++ pairs_inside (inside_of l.inside) (drop l.i l.firsts) (drop l.i l.kinds) ≡ l.fn.list ++ pairs_inside (inside_of l.inside) l.firsts l.kinds
