use Rattle.std.proofs.Common.{◌<◌, ◌≤◌, length, arith}
use Rattle.text_model.specs.Wave.{shown_value}
use Rattle.vcd_text.specs.Variables.{variable_of}
use Rattle.vcd_text.proofs.WaveLemmas.{filled_more, filled_all}
use Rattle.vcd_text.proofs.value.fill_values.Goals as goal

pub loop-i-preserved : goal.loop-i-preserved
loop-i-preserved c =
    let within : c.loop-i.i < length c.loop-i.now = omega arith in
    filled_more variable_of (λ v. shown_value c.args.row.now.levels.now c.args.row.now.drives.now v.shows) c.args.variables.now c.loop-i.now c.loop-i.i c.index-variables-i.result c.of_source.result
    c.loop-i-test.true within c.index-variables-i.is c.of_source.ensures c.loop-i.invariant

pub returns : goal.returns
returns c =
    let within : length c.loop-i.now ≤ c.loop-i.i = omega arith in
    filled_all variable_of (λ v. shown_value c.args.row.now.levels.now c.args.row.now.drives.now v.shows) c.args.variables.now c.loop-i.now c.loop-i.i c.loop-i-test.false within c.loop-i.invariant
