use Rattle.std.proofs.Common.{ℕ, List}
use Rattle.sim_base.specs.declared.bench.Port.TheVariants as ports
use Rattle.board_report.specs.Report.{lcd_row}
use Rattle.board_report.proofs.ReportLemmas.{wrote_same, rows_both}
use Rattle.board_report.proofs.report.write_lcd.Goals as goal

pub returns-clause-next : goal.returns-clause-next
returns-clause-next g c =
    let id : List ℕ = c.args.id.now in
    let screen = c.args.lcd.now.screen in
    let last = c.write_lcd_line in
    λ a text w. wrote_same last.result ports.Report _ _ a (g.B.Bench.outside last.new.bench) (rows_both text (lcd_row id screen 0) (lcd_row id screen 1)) (last.ensures.next a _ (c.write_lcd_line-end.ensures.next a text w))
