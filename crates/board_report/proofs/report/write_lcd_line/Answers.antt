use Rattle.std.proofs.Common.{◌∙◌, ◌++◌, ◌+◌, ℕ, List, ap}
use Rattle.sim_base.specs.declared.bench.Port.TheVariants as ports
use Rattle.sim_report.specs.declared.row.ReportRow.TheVariants as lines
use Rattle.sim_report.specs.Lines.{line_of}
use Rattle.board_report.proofs.ReportLemmas.{wrote_same}
use Rattle.board_report.proofs.report.write_lcd_line.Goals as goal

pub returns-clause-next : goal.returns-clause-next
returns-clause-next g c =
    let row : ℕ = c.args.row + 1 in
    λ a text w. wrote_same c.write_line.result ports.Report _ _ a (g.B.Bench.outside c.write_line.new.bench)
    (ap (λ (id : List ℕ). text ++ line_of (lines.Lcd id row c.line.result)) c.copy.ensures ∙ ap (λ (shown : List ℕ). text ++ line_of (lines.Lcd c.args.id.now row shown)) c.line.ensures)
    (c.write_line.ensures.next a text w)
