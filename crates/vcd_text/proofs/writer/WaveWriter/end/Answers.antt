use Rattle.std.proofs.Common.{◌≡◌, ◌∙◌, ◌++◌, sym, ap, subst, append_assoc, length, List, ℕ, false, []}
use Rattle.vcd_text.specs.Heads.{HeadState}
use Rattle.text_model.specs.Wave.{begun_text, time_line}
use Rattle.vcd_text.specs.Ports.{texts, BreaksOff, Writes}
use Rattle.vcd_text.proofs.WriterLemmas.{writes_more, sum_rose, whole_room}
use Rattle.vcd_text.proofs.writer.WaveWriter.end.Goals as goal

pub take_end-requires-clause-room : goal.take_end-requires-clause-room
take_end-requires-clause-room g c =
    let w = c.args.self.now in
    whole_room w.whole _ (length w.head.now.text) c.requires.whole

pub returns-clause-ends : goal.returns-clause-ends
returns-clause-ends g c = λ rows bytes stood.
    let outside = g.B.Bench.outside in
    let w = c.args.self.now in
    let text : c.text.result.now ≡ w.head.now.text ++ time_line c.args.n = c.text.ensures ∙ ap (λ (x : HeadState). x.text) c.take_end.ensures in
    let all : stood.gone ++ c.text.result.now ≡ begun_text w.head.now.variables rows ++ time_line c.args.n =
    ap (λ (l : List ℕ). stood.gone ++ l) text ∙ sym (append_assoc stood.gone w.head.now.text (time_line c.args.n)) ∙ ap (λ (l : List ℕ). l ++ time_line c.args.n) stood.kept in
    subst (λ (l : List ℕ). Writes c.write_wave.result (texts w.wave w.serial l bytes) (outside w.start.now.value) (outside c.write_wave.new.bench)) all
    (writes_more c.write_wave.result w.wave w.serial stood.gone c.text.result.now bytes (outside w.start.now.value) (outside w.bench.now) (outside c.write_wave.new.bench) stood.leaves c.write_wave.ensures.wrote)

pub returns-clause-failed : goal.returns-clause-failed
returns-clause-failed g c = λ e.
    let outside = g.B.Bench.outside in
    let w = c.args.self.now in
    let broke : BreaksOff (texts w.wave false c.text.result.now []) (outside w.bench.now) (outside c.write_wave.new.bench) =
    rw e at c.write_wave.ensures.wrote in
    sum_rose w.wave c.text.result.now (outside w.bench.now) (outside c.write_wave.new.bench) broke
