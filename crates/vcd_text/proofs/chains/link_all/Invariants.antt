use Rattle.std.proofs.Common.{◌≡◌, ◌≤◌, length}
use Rattle.vcd_text.specs.Variables.{variables_of}
use Rattle.vcd_text.specs.Chains.{sources, AreLinked}
use Rattle.vcd_text.proofs.chains.link_all.Given as goal

abbrev pub invariant-loop-i : goal.invariant-loop-i
invariant-loop-i l = record {
  within : l.i ≤ length l.variables;
  long : length l.next ≡ length l.variables;
  same : length l.first ≡ length l.fn.first;
  linked : AreLinked (sources (variables_of l.variables)) l.first l.next l.i;
}

abbrev pub decreases-loop-i : goal.decreases-loop-i
decreases-loop-i l = l.i
