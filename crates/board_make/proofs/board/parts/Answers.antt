use Rattle.board_make.proofs.MakeLemmas.{parts_pushed}
use Rattle.board_make.proofs.board.parts.Goals as goal

pub returns : goal.returns
returns c =
    parts_pushed c.in_ok-parts.parts c.push_part.new.parts c.push_part-2.new.parts c.push_part-3.new.parts c.name.result c.name-2.result c.name-3.result
    c.in_ok-parts.ensures c.name.ensures c.name-2.ensures c.name-3.ensures c.in_ok-push_part.ensures c.in_ok-push_part-2.ensures c.in_ok-push_part-3.ensures
