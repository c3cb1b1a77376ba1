use Rattle.std.proofs.Common.{◌≡◌, ◌+◌, drop}
use Rattle.document_model.specs.Reading.{each_from}
use Rattle.board_build.specs.Ids.{ids_in}
use Rattle.board_build.specs.Pins.{wire_on_board}
use Rattle.board_build.proofs.EachLemmas.{with_front}
use Rattle.board_build.proofs.pins.wires_on_board.Given as goal

abbrev pub invariant-loop-wire : goal.invariant-loop-wire
invariant-loop-wire l =
    with_front l.pairs (each_from (λ k. wire_on_board l.board.pins.now l.board.kinds.now (ids_in l.board.ids.now)) (l.wire-index + 1) (drop l.wire-index l.wires))
    ≡ each_from (λ k. wire_on_board l.board.pins.now l.board.kinds.now (ids_in l.board.ids.now)) 1 l.wires
