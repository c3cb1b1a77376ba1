use Rattle.chip_report.specs.Lines.{console_text}
use Rattle.chip_report.proofs.WriteLemmas.{wrote_both}
use Rattle.chip_report.proofs.output.write_output.Goals as goal

pub returns-clause-next : goal.returns-clause-next
returns-clause-next g c =
    wrote_both c.args.end c.write_console-end.result c.write_display.result (console_text c.args.id.now c.args.console.now) _
    (g.B.Bench.outside c.args.bench.now) (g.B.Bench.outside c.write_console-end.new.bench) (g.B.Bench.outside c.write_display.new.bench)
    c.write_console-end.ensures.next c.write_display.ensures.next
