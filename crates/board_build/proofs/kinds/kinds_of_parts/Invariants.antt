use Rattle.std.proofs.Common.{◌≡◌, ◌+◌, drop}
use Rattle.document_model.specs.Reading.{each_from}
use Rattle.board_build.specs.Parts.{kind_of_part}
use Rattle.board_build.proofs.EachLemmas.{with_front}
use Rattle.board_build.proofs.kinds.kinds_of_parts.Given as goal

abbrev pub invariant-loop-i : goal.invariant-loop-i
invariant-loop-i l = with_front l.kinds (each_from (kind_of_part l.chips) (l.i + 1) (drop l.i l.parts)) ≡ each_from (kind_of_part l.chips) 1 l.parts
