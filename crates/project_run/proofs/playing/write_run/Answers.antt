use Rattle.std.proofs.Common.{◌∙◌, ℕ, List, Bor, refl}
use Rattle.board_report.specs.Report.{shown_text}
use Rattle.board_outputs.specs.Outputs.{outputs_of}
use Rattle.board_outputs.proofs.StageLemmas.{is_named}
use Rattle.project_run.proofs.ReportLemmas.{report_stands}
use Rattle.project_run.proofs.playing.write_run.Goals as goal

pub report-end-requires-clause-alive : goal.report-end-requires-clause-alive
report-end-requires-clause-alive g c = (c.in-Ok.ensures.ran refl).alive

pub returns-in-Failed-clause-ran : goal.returns-in-Failed-clause-ran
returns-in-Failed-clause-ran g c = λ stand links. c.in-Failed.ensures.wrote (shown_text g.P.Shown.says c.args.chips c.args.n c.args.loaded.parts stand)

pub returns-in-Ok-end-clause-ran : goal.returns-in-Ok-end-clause-ran
returns-in-Ok-end-clause-ran g c = λ stand links.
    rw c.in-Ok-end.is at (report_stands (outputs_of c.args.outputs) _ _ _ (g.B.Bench.outside c.args.bench.now) (shown_text g.P.Shown.says c.args.chips c.args.n c.args.loaded.parts) _ stand _ _ _ _
    (links c.open_and_play.new.board.parts (c.in-Ok.ensures.ran refl).parts) (c.is_some.ensures ∙ is_named (λ (f : Bor (List ℕ)). f.now) c.args.outputs.report) c.in-Ok.ensures.wrote c.report-end.ensures)

pub returns-in-Failed-end-clause-ran : goal.returns-in-Failed-end-clause-ran
returns-in-Failed-end-clause-ran g c = λ stand links.
    rw c.in-Failed-end.is at (report_stands (outputs_of c.args.outputs) _ _ _ (g.B.Bench.outside c.args.bench.now) (shown_text g.P.Shown.says c.args.chips c.args.n c.args.loaded.parts) _ stand _ _ _ _
    (links c.open_and_play.new.board.parts (c.in-Ok.ensures.ran refl).parts) (c.is_some.ensures ∙ is_named (λ (f : Bor (List ℕ)). f.now) c.args.outputs.report) c.in-Ok.ensures.wrote c.report-end.ensures)

pub returns-in-Ok-end-clause-steps : goal.returns-in-Ok-end-clause-steps
returns-in-Ok-end-clause-steps g c = λ e. (c.in-Ok.ensures.ran refl).wakes
