use Rattle.std.proofs.Common.{◌+◌, true}
use Rattle.law_board.specs.Active.{active_pairs}
use Rattle.any_part.specs.AnyPart.{any}
use Rattle.board_report.specs.Report.{part_text}
use Rattle.board_outputs.specs.Outputs.{outputs_of}
use Rattle.sim_io.specs.Outcomes.{outcome_of}
use Rattle.project_run.specs.Contents.{contents_of}
use Rattle.project_run.proofs.CountLemmas.{counted_is}
use Rattle.project_run.proofs.PlayLemmas.{same_texts}
use Rattle.project_run.proofs.running.run_board.Goals as goal

pub returns-in-Ok-clause-ran : goal.returns-in-Ok-clause-ran
returns-in-Ok-clause-ran g c =
    let is = c.in-Ok.ensures in
    same_texts any part_text true (outcome_of c.write_run.result) (outputs_of c.args.outputs) c.args.n (g.B.Bench.outside c.args.bench.now) (g.B.Bench.outside c.write_run.new.bench) _ _ _ _ _ _ _ _ _ _
    is.shown is.wiring is.inputs is.states is.parts (c.write_run.ensures.ran _ (λ parts same. same))

pub returns-in-Ok-clause-steps : goal.returns-in-Ok-clause-steps
returns-in-Ok-clause-steps g c accepted =
    let is = c.in-Ok.ensures in
    counted_is (λ vs w inputs ss. c.args.steps.now + active_pairs any w inputs ss 0 c.args.n) c.in-Ok.loaded.head.variables c.in-Ok.loaded.board (contents_of c.args.contents) c.args.plan c.write_run.new.steps
    is.shown is.wiring is.inputs is.states (c.write_run.ensures.steps accepted)
