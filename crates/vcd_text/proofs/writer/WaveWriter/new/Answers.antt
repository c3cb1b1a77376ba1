use Rattle.std.proofs.Common.{ap, refl, []}
use Rattle.text_model.specs.Wave.{begun_text, wave_count}
use Rattle.vcd_text.specs.Heads.{HeadState}
use Rattle.vcd_text.proofs.WriterLemmas.{leaves_nothing}
use Rattle.vcd_text.proofs.writer.WaveWriter.new.Goals as goal

pub returns-clause-stands : goal.returns-clause-stands
unfolding begun_text wave_count
returns-clause-stands g c = record {
  gone = [];
  kept = ap (λ (s : HeadState). s.text) c.restart.ensures;
  leaves = rw c.requires.lent (leaves_nothing c.args.wave c.args.serial (g.B.Bench.outside c.args.bench.now));
  none = λ e. ap (λ (s : HeadState). s.text) c.restart.ensures;
  follows = λ e. ap (λ (s : HeadState). s.started) c.restart.ensures;
  changed = λ e f. refl;
  sent = λ e. refl;
  long = λ e. refl;
}
