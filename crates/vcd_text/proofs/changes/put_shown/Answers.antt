use Rattle.std.proofs.Common.{◌∙◌}
use Rattle.vcd_text.proofs.WrittenLemmas.{written_same}
use Rattle.vcd_text.proofs.changes.put_shown.Goals as goal

pub returns-then-is_passed-clause-written : goal.returns-then-is_passed-clause-written
returns-then-is_passed-clause-written c = λ last new from count long is w.
    let passed = c.is_passed.ensures c.if-is_passed.true in
    written_same last new from c.args.i count c.args.values.now c.args.out.now long (c.requires.rests passed.0 passed.1 passed.2 passed.3 passed.4 passed.5 ∙ is) w

pub returns-clause-written : goal.returns-clause-written
returns-clause-written c = λ last new from count long is w. c.put_value.ensures.written last new from count long (c.of_source.ensures ∙ is) w
