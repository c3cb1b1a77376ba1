use Rattle.std.proofs.Common.{◌∙◌, ◌++◌, ℕ, List, ap}
use Rattle.sim_base.specs.declared.bench.Port.TheVariants as ports
use Rattle.sim_report.specs.declared.row.ReportRow.TheVariants as lines
use Rattle.sim_report.specs.Lines.{line_of}
use Rattle.board_report.proofs.ReportLemmas.{wrote_same}
use Rattle.board_report.proofs.report.write_page.Goals as goal

pub returns-clause-next : goal.returns-clause-next
returns-clause-next g c =
    let page : ℕ = c.args.page in
    λ a text w. wrote_same c.write_line.result ports.Report _ _ a (g.B.Bench.outside c.write_line.new.bench)
    (ap (λ (id : List ℕ). text ++ line_of (lines.OledPage id page c.page.result)) c.copy.ensures ∙ ap (λ (shown : List ℕ). text ++ line_of (lines.OledPage c.args.id.now page shown)) c.page.ensures)
    (c.write_line.ensures.next a text w)
