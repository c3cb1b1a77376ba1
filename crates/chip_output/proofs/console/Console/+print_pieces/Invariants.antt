use Rattle.chip_output.proofs.console.Console.+print_pieces.Given as goal

abbrev pub decreases-print_pieces : goal.decreases-print_pieces
decreases-print_pieces l = l.count
