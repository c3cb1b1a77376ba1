use Rattle.std.proofs.Common.{◌≡◌, ◌∷◌, codes}
use Rattle.board_make.specs.Board.{lamps_parts, part}
use Rattle.board_make.proofs.board.lamps_parts.Given as goal

abbrev pub invariant-loop-i : goal.invariant-loop-i
invariant-loop-i l = l.parts ≡ part (codes "wokwi-arduino-uno") (codes "uno") ∷ lamps_parts l.i
