use Rattle.std.proofs.Common.{◌≡◌, ◌*◌, ◌-◌, true, length}
use Rattle.sim_base.specs.declared.bench.Port.TheVariants as ports
use Rattle.sim_base.specs.Outside.{SameOthers}
use Rattle.chip_report.specs.Lines.{rows_text}
use Rattle.chip_report.specs.Writing.{Goes}
use Rattle.chip_report.proofs.display.write_frame.Given as goal

abbrev pub invariant-loop-y : goal.invariant-loop-y
invariant-loop-y g l = record {
  goes : Goes l.fn.end (rows_text l.id l.count 0 l.height l.pixels) l.end (rows_text l.id l.count l.y (l.height - l.y) l.rest)
      (g.B.Bench.outside l.fn.bench) (g.B.Bench.outside l.bench);
  size : length l.rest ≡ (l.height - l.y) * l.count;
  named : (g.B.Bench.outside l.bench).name ports.Report ≡ (g.B.Bench.outside l.fn.bench).name ports.Report;
  opened : (g.B.Bench.outside l.bench).opened ports.Report ≡ true;
  others : SameOthers ports.Report (g.B.Bench.outside l.fn.bench) (g.B.Bench.outside l.bench);
}
