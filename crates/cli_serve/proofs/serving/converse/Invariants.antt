use Rattle.std.proofs.Common.{[]}
use Rattle.any_part.specs.AnyPart.{AnyState}
use Rattle.live_model.specs.Board.{Setup}
use Rattle.live_model.specs.Standing.{Standing}
use Rattle.cli_serve.proofs.GoingLemmas.{IsGoing}
use Rattle.cli_serve.proofs.serving.converse.Given as goal

abbrev pub invariant-loop : goal.invariant-loop
invariant-loop g l = record {
  may : g.T.Talker.MayAnswer l.live (g.B.Bench.outside l.start.value) (g.B.Bench.outside l.bench);
  going : (b : Setup AnyState) (s : Standing) → g.T.Talker.IsAt b l.fn.live s [] (g.B.Bench.outside l.start.value) (g.B.Bench.outside l.fn.bench) →
      IsGoing g.T.Talker.IsAt b (g.B.Bench.outside l.start.value) s l.live (g.B.Bench.outside l.fn.bench) (g.B.Bench.outside l.bench) l.fn.steps l.steps l.counter;
}
