use Rattle.live_start.proofs.StartLemmas.{page_text}
use Rattle.live_start.proofs.page.write_report.Goals as goal

pub returns-in-Ok : goal.returns-in-Ok
returns-in-Ok g c = λ e. page_text c.write_report_of.result c.args.bench.now c.open_port.new.self c.write_report_of.new.bench _ _ c.in-Ok.ensures.opens c.write_report_of.ensures.wrote e
