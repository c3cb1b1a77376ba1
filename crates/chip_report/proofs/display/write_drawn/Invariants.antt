use Rattle.std.proofs.Common.{◌≡◌, [], ◌∷◌, ◌++◌, true, drop}
use Rattle.std.specs.List.{flat_map}
use Rattle.sim_base.specs.declared.bench.Port.TheVariants as ports
use Rattle.sim_base.specs.Outside.{SameOthers}
use Rattle.sim_report.specs.Lines.{hex_byte}
use Rattle.chip_report.specs.Lines.{row_opening}
use Rattle.chip_report.specs.Writing.{Goes}
use Rattle.chip_report.proofs.display.write_drawn.Given as goal

abbrev pub invariant-loop-b : goal.invariant-loop-b
invariant-loop-b g l = record {
  goes : Goes l.fn.end (row_opening l.id l.y ++ (flat_map hex_byte l.row ++ 10 ∷ [])) l.end (l.piece.items ++ (flat_map hex_byte (drop l.b-index l.row) ++ 10 ∷ []))
      (g.B.Bench.outside l.fn.bench) (g.B.Bench.outside l.bench);
  named : (g.B.Bench.outside l.bench).name ports.Report ≡ (g.B.Bench.outside l.fn.bench).name ports.Report;
  opened : (g.B.Bench.outside l.bench).opened ports.Report ≡ true;
  others : SameOthers ports.Report (g.B.Bench.outside l.fn.bench) (g.B.Bench.outside l.bench);
}
