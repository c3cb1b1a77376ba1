use Rattle.chip_abi.proofs.reading.+text_len.Given as goal

abbrev pub decreases-text_len : goal.decreases-text_len
decreases-text_len l = l.room
