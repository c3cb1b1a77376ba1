use Rattle.std.proofs.Common.{◌≡◌, ◌++◌, true, List, ℕ, drop, map}
use Rattle.sim_base.specs.declared.bench.Port.TheVariants as ports
use Rattle.sim_base.specs.Outside.{SameOthers}
use Rattle.sim_outcome_model.specs.Work.{WroteOn}
use Rattle.board_report.specs.Report.{parts_text}
use Rattle.board_report.proofs.report.write_parts.Given as goal

abbrev pub invariant-loop-i : goal.invariant-loop-i
invariant-loop-i g l = record {
  done : (done : List ℕ) × WroteOn l.fn.end l.end ports.Report done (g.B.Bench.outside l.fn.bench) (g.B.Bench.outside l.bench)
      × (done ++ parts_text g.P.Shown.says l.chips (drop l.i l.plan) (map g.P.Shown.stood (drop l.i l.parts)) ≡ parts_text g.P.Shown.says l.chips l.plan (map g.P.Shown.stood l.parts));
  named : (g.B.Bench.outside l.bench).name ports.Report ≡ (g.B.Bench.outside l.fn.bench).name ports.Report;
  opened : (g.B.Bench.outside l.bench).opened ports.Report ≡ true;
  others : SameOthers ports.Report (g.B.Bench.outside l.fn.bench) (g.B.Bench.outside l.bench);
}
