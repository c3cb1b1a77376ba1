use Rattle.std.proofs.Common.{◌≡◌, ◌++◌, drop, map}
use Rattle.text_model.specs.Wave.{declarations}
use Rattle.vcd_text.specs.Variables.{variable_of}
use Rattle.vcd_text.proofs.declarations.declare_all.Given as goal

abbrev pub invariant-loop-i : goal.invariant-loop-i
invariant-loop-i l = l.out.items ++ declarations l.i (drop l.i (map variable_of l.variables)) ≡ l.fn.out.items ++ declarations 0 (map variable_of l.variables)
