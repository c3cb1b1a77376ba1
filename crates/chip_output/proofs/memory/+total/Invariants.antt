use Rattle.chip_output.proofs.memory.+total.Given as goal

abbrev pub decreases-total : goal.decreases-total
decreases-total l = l.count
