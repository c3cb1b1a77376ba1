use Rattle.vcd_text.specs.Variables.{variables_of}
use Rattle.vcd_text.specs.Chains.{values_at}
use Rattle.vcd_text.specs.Written.{IsWritten}
use Rattle.vcd_text.proofs.changes.push_changes.Given as goal

abbrev pub invariant-loop-i : goal.invariant-loop-i
invariant-loop-i l = IsWritten l.fn.values (values_at l.row.levels.now l.row.drives.now (variables_of l.variables)) l.fn.out l.i l.count l.values l.out
