use Rattle.std.proofs.Common.{◌≡◌, ◌+◌, drop}
use Rattle.std.specs.List.{zip}
use Rattle.document_model.specs.Reading.{each_from}
use Rattle.board_build.specs.Parts.{part_in_plan}
use Rattle.board_build.proofs.EachLemmas.{with_front}
use Rattle.board_build.proofs.parts.parts_in_plan.Given as goal

abbrev pub invariant-loop-i : goal.invariant-loop-i
invariant-loop-i l = with_front l.planned (each_from part_in_plan (l.i + 1) (drop l.i (zip l.kinds l.parts))) ≡ each_from part_in_plan 1 (zip l.kinds l.parts)
