use Rattle.std.proofs.Common.{◌∙◌}
use Rattle.vcd_text.proofs.WrittenLemmas.{written_same, written_more}
use Rattle.vcd_text.proofs.changes.put_value.Goals as goal

pub returns-then-values-i-clause-written : goal.returns-then-values-i-clause-written
returns-then-values-i-clause-written c = λ last new from count long value w.
    written_same last new from c.args.i count c.args.values.now c.args.out.now long (c.if-values-i.true ∙ value) w

pub returns-clause-written : goal.returns-clause-written
returns-clause-written c = λ last new from count long value w.
    written_more last new from c.args.i count c.args.value c.args.values.now c.args.out.now c.push_value.new.out c.requires.place long value
    c.if-values-i.false c.push_value.ensures.text c.push_value.ensures.short w
