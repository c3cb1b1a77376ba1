use Rattle.std.proofs.Common.{◌≡◌, ◌+◌, drop}
use Rattle.document_model.specs.Reading.{each_from}
use Rattle.board_build.specs.Parts.{found_chip}
use Rattle.board_build.proofs.EachLemmas.{with_front}
use Rattle.board_build.proofs.kinds.found_chips.Given as goal

abbrev pub invariant-loop-i : goal.invariant-loop-i
invariant-loop-i l = with_front l.found (each_from found_chip (l.i + 1) (drop l.i l.kinds)) ≡ each_from found_chip 1 l.kinds
