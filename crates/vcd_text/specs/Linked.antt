-- The values that a row gives linked variables. No public clause cites this.
use Rattle.std.specs.Prelude.{ℕ, List}
use Rattle.text_model.specs.Wave.{Variable}
use Rattle.vcd_text.specs.Variables.{variables_of}
use Rattle.vcd_text.specs.Chains.{values_at}
use Rattle.vcd_text.specs.declared.chains.Links.{Links}
use Rattle.vcd_text.specs.declared.row.Row.{Row}

abbrev pub variables_in : Links → List Variable
variables_in links = variables_of links.variables.now

abbrev pub values_in : Row → Links → List ℕ
values_in row links = values_at row.levels.now row.drives.now (variables_in links)
