use Rattle.std.proofs.Common.{◌≡◌, ◌+◌, drop}
use Rattle.document_model.specs.Reading.{each_from}
use Rattle.board_build.specs.Ids.{ids_in}
use Rattle.board_build.specs.Parts.{input_of}
use Rattle.board_build.proofs.EachLemmas.{with_front}
use Rattle.board_build.proofs.inputs.inputs_of.Given as goal

abbrev pub invariant-loop-row : goal.invariant-loop-row
invariant-loop-row l =
    with_front l.inputs (each_from (λ k. input_of (ids_in l.ids) l.kinds) (l.row-index + 1) (drop l.row-index l.rows)) ≡ each_from (λ k. input_of (ids_in l.ids) l.kinds) 1 l.rows
