use Rattle.std.proofs.Common.{◌≡◌, ◌+◌, [], drop}
use Rattle.board_build.specs.Ids.{ids_in}
use Rattle.board_build.specs.Parts.{ids_from}
use Rattle.board_build.proofs.ids.ids_of_parts.Given as goal

abbrev pub invariant-loop-i : goal.invariant-loop-i
invariant-loop-i l = ids_from (ids_in l.ids) (l.i + 1) (drop l.i l.parts) ≡ ids_from [] 1 l.parts
