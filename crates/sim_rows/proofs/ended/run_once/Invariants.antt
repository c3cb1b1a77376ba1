use Rattle.sim_rows.proofs.ended.run_once.Given as goal

abbrev pub ghosts-call : goal.ghosts-call
ghosts-call a = record { name = a.blank.name; parts = a.blank.parts }
