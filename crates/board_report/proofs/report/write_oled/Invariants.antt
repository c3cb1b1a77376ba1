use Rattle.std.proofs.Common.{◌≡◌, [], ◌∷◌, true}
use Rattle.std.specs.List.{flat_map}
use Rattle.sim_base.specs.declared.bench.Port.TheVariants as ports
use Rattle.sim_base.specs.Outside.{SameOthers}
use Rattle.board_model.specs.Walks.{below}
use Rattle.sim_outcome_model.specs.Work.{WroteOn}
use Rattle.sim_report.specs.declared.row.ReportRow.TheVariants as lines
use Rattle.board_report.specs.Report.{page_row, text_of}
use Rattle.board_report.proofs.report.write_oled.Given as goal

abbrev pub invariant-loop-page : goal.invariant-loop-page
invariant-loop-page g l = record {
  next : WroteOn l.fn.end l.end ports.Report
      (text_of (lines.Oled l.id l.oled.picture.on ∷ flat_map (λ page. page_row l.id l.oled.picture page ∷ []) (below l.page)))
      (g.B.Bench.outside l.fn.bench) (g.B.Bench.outside l.bench);
  named : (g.B.Bench.outside l.bench).name ports.Report ≡ (g.B.Bench.outside l.fn.bench).name ports.Report;
  opened : (g.B.Bench.outside l.bench).opened ports.Report ≡ true;
  others : SameOthers ports.Report (g.B.Bench.outside l.fn.bench) (g.B.Bench.outside l.bench);
}
