use Rattle.board_make.proofs.MakeLemmas.{lamp_pushed}
use Rattle.board_make.proofs.board.push_lamp_parts.Goals as goal

pub returns : goal.returns
returns c =
    lamp_pushed c.args.i c.args.parts.now c.push_part.new.parts c.push_part-2.new.parts c.in_ok-numbered.field-0 c.in_ok-numbered-2.field-0
    c.in_ok-numbered.ensures c.in_ok-numbered-2.ensures c.in_ok-push_part.ensures c.in_ok-push_part-2.ensures
