use Rattle.std.proofs.Common.{◌≡◌, ◌++◌, true, false, drop}
use Rattle.sim_base.specs.declared.bench.Port.TheVariants as ports
use Rattle.sim_base.specs.Outside.{SameOthers}
use Rattle.chip_report.specs.Lines.{console_opening}
use Rattle.chip_report.specs.Writing.{Goes, rest_text}
use Rattle.chip_report.proofs.console.write_printed.Given as goal

abbrev pub invariant-loop-b : goal.invariant-loop-b
invariant-loop-b g l = record {
  goes : Goes l.fn.end (rest_text (console_opening l.id) false l.text) l.end (l.piece.items ++ rest_text (console_opening l.id) l.begun (drop l.b-index l.text))
      (g.B.Bench.outside l.fn.bench) (g.B.Bench.outside l.bench);
  named : (g.B.Bench.outside l.bench).name ports.Report ≡ (g.B.Bench.outside l.fn.bench).name ports.Report;
  opened : (g.B.Bench.outside l.bench).opened ports.Report ≡ true;
  others : SameOthers ports.Report (g.B.Bench.outside l.fn.bench) (g.B.Bench.outside l.bench);
}
