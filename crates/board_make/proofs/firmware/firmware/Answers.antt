use Rattle.board_make.proofs.MakeLemmas.{image_written}
use Rattle.board_make.proofs.firmware.firmware.Goals as goal

pub returns : goal.returns
returns c =
    image_written c.args.seed c.in_ok-flash.flash c.write_opening.new.flash c.write_turns.new.flash c.write_word.new.flash
    c.in_ok-flash.ensures c.write_opening.ensures c.write_turns.ensures c.write_word.ensures
