use Rattle.std.proofs.Common.{◌∙◌, ◌++◌, ap, append_assoc}
use Rattle.text_model.specs.Wave.{initial_values}
use Rattle.vcd_text.specs.Buffers.{BufferState}
use Rattle.vcd_text.proofs.WaveLemmas.{state_is}
use Rattle.vcd_text.proofs.changes.push_first.Goals as goal

pub returns : goal.returns
returns c =
    let p = c.push.ensures in
    let q = c.push_initial_values.ensures in
    state_is c.push_initial_values.new.out _ _
    (ap (λ (b : BufferState). b.text) q
    ∙ ap (λ (b : BufferState). b.text ++ initial_values c.args.cycle c.args.now.now) p
    ∙ append_assoc c.args.out.now.text c.args.head.now (initial_values c.args.cycle c.args.now.now))
    (ap (λ (b : BufferState). b.room) q ∙ ap (λ (b : BufferState). b.room) p)
