use Rattle.rows_wakes.proofs.lone.wakes_of.Given as goal

abbrev pub ghosts-run_alone : goal.ghosts-run_alone
ghosts-run_alone a = record { name = a.blank.name; parts = a.blank.parts }
