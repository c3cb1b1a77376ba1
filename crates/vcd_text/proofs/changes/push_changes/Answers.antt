use Rattle.std.proofs.Common.{◌∙◌, ap, sym, arith, Some}
use Rattle.text_model.specs.Wave.{Source, Variable, shown_value}
use Rattle.vcd_text.specs.Chains.{values_at}
use Rattle.vcd_text.specs.Variables.{variable_of, variables_of}
use Rattle.vcd_text.proofs.ChainLemmas.{shown_here}
use Rattle.vcd_text.proofs.WaveLemmas.{made_at, made_long}
use Rattle.vcd_text.proofs.WrittenLemmas.{written_none, written_all}
use Rattle.vcd_text.proofs.changes.push_changes.Goals as goal

pub loop-i-init : goal.loop-i-init
loop-i-init c = written_none c.args.values.now (values_at c.args.row.now.levels.now c.args.row.now.drives.now (variables_of c.args.variables.now)) c.args.out.now

pub put_shown-count-requires : goal.put_shown-count-requires
put_shown-count-requires c =
    let inv = c.loop-i.invariant in
    let long = inv.long in
    let short = inv.short in
    let vs = c.args.variables.now in
    let i = c.loop-i.i in
    let shown = λ (v : Variable). shown_value c.args.row.now.levels.now c.args.row.now.drives.now v.shows in
    record {
      few = omega (arith, c.loop-i-test.true, c.requires.few);
      place = omega (arith, c.loop-i-test.true, long, c.requires.long);
      room = omega (arith, c.loop-i-test.true, c.requires.room, inv.room, short);
      rests = λ p n told shows first second.
          inv.rest i (omega arith) ∙ c.requires.nets p told i n (shown_here vs i c.index-variables-i.result c.loop-i-test.true ∙ ap (λ (s : Source). Some s) shows) first second
          ∙ made_at variable_of shown vs i c.index-variables-i.result c.loop-i-test.true;
    }

pub loop-i-preserved : goal.loop-i-preserved
loop-i-preserved c =
    let vs = c.args.variables.now in
    let shown = λ (v : Variable). shown_value c.args.row.now.levels.now c.args.row.now.drives.now v.shows in
    c.put_shown-count.ensures.written c.args.values.now (values_at c.args.row.now.levels.now c.args.row.now.drives.now (variables_of vs)) c.args.out.now c.loop-i.count
    (c.requires.long ∙ sym (made_long variable_of shown vs))
    (sym (made_at variable_of shown vs c.loop-i.i c.index-variables-i.result c.loop-i-test.true)) c.loop-i.invariant

pub returns : goal.returns
returns c =
    let vs = c.args.variables.now in
    let long = made_long variable_of (λ (v : Variable). shown_value c.args.row.now.levels.now c.args.row.now.drives.now v.shows) vs in
    let all = written_all c.args.values.now (values_at c.args.row.now.levels.now c.args.row.now.drives.now (variables_of vs)) c.args.out.now c.loop-i.i c.loop-i.count c.loop-i.values c.loop-i.out
    (omega (arith, c.loop-i-test.false, c.requires.long)) (c.requires.long ∙ sym long) c.loop-i.invariant in
    record { values = all.0; text = all.1; count = all.2 }
