use Rattle.std.proofs.Common.{◌≡◌, map, take, true}
use Rattle.std.specs.List.{concat}
use Rattle.sim_base.specs.declared.bench.Port.TheVariants as ports
use Rattle.sim_base.specs.Outside.{SameOthers}
use Rattle.sim_outcome_model.specs.Work.{WroteOn}
use Rattle.avr_omit.specs.Names.{all}
use Rattle.sim_report.specs.Omissions.{omission_text}
use Rattle.sim_report.proofs.omissions.write_omissions.Given as goal

abbrev pub invariant-loop-omission : goal.invariant-loop-omission
invariant-loop-omission g l = record {
  next : WroteOn l.fn.end l.end ports.Report (concat (map (omission_text l.id l.asked) (take l.omission-index all))) (g.B.Bench.outside l.fn.bench) (g.B.Bench.outside l.bench);
  named : (g.B.Bench.outside l.bench).name ports.Report ≡ (g.B.Bench.outside l.fn.bench).name ports.Report;
  opened : (g.B.Bench.outside l.bench).opened ports.Report ≡ true;
  others : SameOthers ports.Report (g.B.Bench.outside l.fn.bench) (g.B.Bench.outside l.bench);
}
