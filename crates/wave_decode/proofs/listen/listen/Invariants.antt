use Rattle.std.proofs.Common.{◌≡◌, ◌-◌, ℕ, true}
use Rattle.sim_base.specs.declared.bench.Port.TheVariants as ports
use Rattle.sim_base.specs.Outside.{SameOthers}
use Rattle.wave_decode.specs.Frames.{reading, told}
use Rattle.wave_decode.specs.Listening.{Gathers, IsAt}
use Rattle.wave_decode.proofs.listen.listen.Given as goal

abbrev pub invariant-loop-next : goal.invariant-loop-next
invariant-loop-next g l = record {
  at : (now : ℕ) × IsAt l.bus l.n l.of_a l.of_b now l.next l.a.level l.a.rows.now l.b.level l.b.rows.now l.heard
      × Gathers l.end l.text.items (told l.bus l.n (reading l.of_a) (reading l.of_b) now).1 (g.B.Bench.outside l.fn.bench) (g.B.Bench.outside l.bench);
  named : (g.B.Bench.outside l.bench).name ports.Report ≡ (g.B.Bench.outside l.fn.bench).name ports.Report;
  opened : (g.B.Bench.outside l.bench).opened ports.Report ≡ true;
  others : SameOthers ports.Report (g.B.Bench.outside l.fn.bench) (g.B.Bench.outside l.bench);
}

abbrev pub decreases-loop-next : goal.decreases-loop-next
decreases-loop-next g l = l.n - l.next
