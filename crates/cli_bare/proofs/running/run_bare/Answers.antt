use Rattle.std.proofs.Common.{◌∙◌, [], ap}
use Rattle.sim_base.specs.declared.bench.WriteEnd.TheVariants as writes
use Rattle.board_outputs.specs.Variables.{board_variables}
use Rattle.cli_bare.proofs.PlanLemmas.{is_plan}
use Rattle.cli_bare.proofs.RunLemmas.{bare_counts, bare_writes}
use Rattle.cli_bare.proofs.running.run_bare.Goals as goal

pub wave_head-requires-clause-plan : goal.wave_head-requires-clause-plan
wave_head-requires-clause-plan g c = rw c.in-Ok.ensures is_plan

pub returns-in-Failed-clause-ran : goal.returns-in-Failed-clause-ran
returns-in-Failed-clause-ran g c =
    let made = c.in-Ok-make_board.ensures in
    bare_writes c.args.flash c.args.n c.in-Ok-wave_head.head.variables c.in-Ok-make_board.board (c.in-Ok-wave_head.ensures ∙ ap (board_variables []) c.in-Ok.ensures) made.wiring made.inputs made.states
    writes.Failed (g.B.Bench.outside c.args.bench.now) (g.B.Bench.outside c.open_and_play-end.new.bench) (c.in-Failed.ensures.wrote [])

pub returns-in-Ok-end-clause-steps : goal.returns-in-Ok-end-clause-steps
returns-in-Ok-end-clause-steps g c accepted =
    let made = c.in-Ok-make_board.ensures in
    bare_counts c.args.flash c.args.n c.in-Ok-wave_head.head.variables c.in-Ok-make_board.board (c.in-Ok-wave_head.ensures ∙ ap (board_variables []) c.in-Ok.ensures) made.wiring made.inputs made.states
    c.args.steps.now c.open_and_play-end.new.steps (c.open_and_play-end.ensures.ran c.in-Ok-end.is).wakes
