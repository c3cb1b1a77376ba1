use Rattle.std.proofs.Common.{◌≡◌, ◌<◌, ℕ, Some}
use Rattle.std.specs.Prelude.{slice_get}
use Rattle.text_model.specs.Wave.{Net}
use Rattle.vcd_text.specs.Variables.{variables_of}
use Rattle.vcd_text.specs.Chains.{sources}
use Rattle.vcd_text.proofs.chains.count_nets.Given as goal

abbrev pub invariant-loop-variable : goal.invariant-loop-variable
invariant-loop-variable l = (k n : ℕ) → k < l.variable-index → slice_get (sources (variables_of l.variables)) k ≡ Some (Net n) → n < l.count
