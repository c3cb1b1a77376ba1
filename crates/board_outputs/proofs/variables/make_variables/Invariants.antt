use Rattle.std.proofs.Common.{◌≡◌, ◌≤◌, ◌++◌, length, drop, take}
use Rattle.std.specs.List.{sum_by}
use Rattle.vcd_text.specs.Variables.{variables_of}
use Rattle.board_outputs.specs.Variables.{parts_variables, board_variables}
use Rattle.board_outputs.proofs.VariableLemmas.{most_variables}
use Rattle.board_outputs.proofs.variables.make_variables.Given as goal

abbrev pub invariant-loop-i : goal.invariant-loop-i
invariant-loop-i l = record {
  parts : variables_of l.variables ++ parts_variables l.pins l.plan.wiring.net_of (drop l.i l.plan.wiring.first_pin) (drop l.i l.plan.parts) ≡ board_variables l.pins l.plan;
  few : length l.variables ≤ sum_by most_variables (take l.i l.plan.parts);
}
