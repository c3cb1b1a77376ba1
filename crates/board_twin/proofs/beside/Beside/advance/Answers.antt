use Rattle.board_twin.proofs.beside.Beside.advance.Goals as goal

pub cycle-requires : goal.cycle-requires
cycle-requires g c = let x = c.requires.way in (c.go_still.ensures.went x.start x.steps x.is).board.alive

pub returns-then-cycle-t-clause-went : goal.returns-then-cycle-t-clause-went
returns-then-cycle-t-clause-went g c = λ start steps is. c.step.ensures.went start steps (c.go_still.ensures.went start steps is)
