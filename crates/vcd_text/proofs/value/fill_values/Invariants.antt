use Rattle.std.proofs.Common.{◌≡◌, take, map}
use Rattle.text_model.specs.Wave.{shown_value}
use Rattle.vcd_text.specs.Variables.{variable_of}
use Rattle.vcd_text.proofs.value.fill_values.Given as goal

abbrev pub invariant-loop-i : goal.invariant-loop-i
invariant-loop-i l = take l.i l.now ≡ take l.i (map (λ v. shown_value l.row.levels.now l.row.drives.now v.shows) (map variable_of l.variables))
