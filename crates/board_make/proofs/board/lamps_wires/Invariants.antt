use Rattle.std.proofs.Common.{◌≡◌}
use Rattle.board_make.specs.Board.{lamps_wires}
use Rattle.board_make.proofs.board.lamps_wires.Given as goal

abbrev pub invariant-loop-i : goal.invariant-loop-i
invariant-loop-i l = l.wires ≡ lamps_wires l.i
