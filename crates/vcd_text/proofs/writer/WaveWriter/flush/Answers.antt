use Rattle.std.proofs.Common.{◌≡◌, ◌∙◌, ◌++◌, List, ℕ, [], false, arith, subst, refl}
use Rattle.std.proofs.lemmas.List.{append-nil}
use Rattle.sim_base.specs.declared.bench.Port.TheVariants as ports
use Rattle.text_model.specs.Wave.{begun_text}
use Rattle.vcd_text.specs.Ports.{texts, Leaves}
use Rattle.vcd_text.proofs.WriterLemmas.{leaves_more, whole_still}
use Rattle.vcd_text.proofs.writer.WaveWriter.flush.Goals as goal

pub returns-clause-ok : goal.returns-clause-ok
returns-clause-ok g c = λ e.
    let outside = g.B.Bench.outside in
    let w = c.args.self.now in
    let s = w.head.now in
    let after = c.write_wave-end.new.bench in
    let written : Leaves (texts w.wave false c.text.result.now []) (outside w.bench.now) (outside after) = rw e at c.write_wave-end.ensures.wrote in
    let wrote : Leaves (texts w.wave false s.text []) (outside w.bench.now) (outside after) =
    subst (λ (t : List ℕ). Leaves (texts w.wave false t []) (outside w.bench.now) (outside after)) c.text.ensures written in
    record {
      is_whole = rw c.clear.ensures (whole_still w.whole c.is_ok-self.result w.wave ((outside w.bench.now).opened ports.Wave) ((outside after).opened ports.Wave) _ 0
          (c.is_ok-self.ensures.ok e) (wrote.opened ports.Wave) (omega arith) c.requires);
      no_fault = omega (arith, wrote.faults ports.Wave, wrote.faults ports.Serial);
      appended = λ rows bytes stood. rw (append-nil rows, append-nil bytes, c.clear.ensures) (record {
        gone = stood.gone ++ s.text;
        kept = append-nil (stood.gone ++ s.text) ∙ stood.kept;
        leaves = leaves_more w.wave w.serial stood.gone s.text bytes (outside w.start.now.value) (outside w.bench.now) (outside after) stood.leaves wrote;
        none = λ blind. refl;
        follows = stood.follows;
        changed = stood.changed;
        sent = stood.sent;
        long = stood.long;
      });
    }
