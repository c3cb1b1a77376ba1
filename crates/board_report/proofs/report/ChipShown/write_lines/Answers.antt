use Rattle.std.proofs.Common.{◌∙◌, ap}
use Rattle.sim_base.specs.declared.bench.Port.TheVariants as ports
use Rattle.board_report.specs.Report.{chip_row}
use Rattle.board_report.proofs.ReportLemmas.{wrote_same, chip_lines}
use Rattle.board_report.proofs.report.ChipShown.write_lines.Goals as goal

pub returns-clause-next : goal.returns-clause-next
returns-clause-next g c =
    let part = c.args.part.now in
    let row = c.chip_row-row.ensures ∙ ap (chip_row part.id) c.trap.ensures.value in
    λ a text w. wrote_same c.write_output.result ports.Report _ _ a (g.B.Bench.outside c.write_output.new.bench)
    (chip_lines text c.console.result.now c.chip_row-row.result _ part c.args.self.now.chip row c.console.ensures c.frame.ensures.picture)
    (c.write_output.ensures.next a _ (c.write_line-end.ensures.next a text w))
