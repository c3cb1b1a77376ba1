use Rattle.std.proofs.Common.{◌-◌, min, length}
use Rattle.vcd_text.specs.Variables.{variables_of}
use Rattle.vcd_text.specs.Chains.{sources, values_at, IsNext}
use Rattle.vcd_text.specs.Written.{IsWritten}
use Rattle.vcd_text.proofs.follow.push_chain.Given as goal

abbrev pub invariant-loop-a : goal.invariant-loop-a
invariant-loop-a l = record {
  written : IsWritten l.fn.values (values_at l.row.levels.now l.row.drives.now (variables_of l.links.variables.now)) l.fn.out (min l.a l.b) l.count l.values l.out;
  one : IsNext (sources (variables_of l.links.variables.now)) l.one (min l.a l.b) l.a;
  two : IsNext (sources (variables_of l.links.variables.now)) l.two (min l.a l.b) l.b;
}

abbrev pub decreases-loop-a : goal.decreases-loop-a
decreases-loop-a l = length l.links.variables.now - min l.a l.b
