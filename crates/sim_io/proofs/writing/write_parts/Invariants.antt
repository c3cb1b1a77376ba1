use Rattle.std.proofs.Common.{◌≡◌, map, take}
use Rattle.std.specs.List.{concat}
use Rattle.sim_base.specs.Outside.{SameOthers, Grows}
use Rattle.sim_io.proofs.writing.write_parts.Given as goal

abbrev pub invariant-loop-part : goal.invariant-loop-part
invariant-loop-part g l = record {
  grown : Grows ((g.B.Bench.outside l.fn.bench).written l.port) ((g.B.Bench.outside l.bench).written l.port) (concat (map (λ p. p.now) (take l.part-index l.parts)));
  faults : (g.B.Bench.outside l.bench).faults l.port ≡ (g.B.Bench.outside l.fn.bench).faults l.port;
  named : (g.B.Bench.outside l.bench).name l.port ≡ (g.B.Bench.outside l.fn.bench).name l.port;
  opened : (g.B.Bench.outside l.bench).opened l.port ≡ (g.B.Bench.outside l.fn.bench).opened l.port;
  others : SameOthers l.port (g.B.Bench.outside l.fn.bench) (g.B.Bench.outside l.bench);
}
