use Rattle.std.proofs.Common.{◌≡◌, ◌+◌, ◌*◌, ◌≤◌, ◌++◌, true, length, drop}
use Rattle.vcd_text.specs.Variables.{variables_of}
use Rattle.board_outputs.specs.Variables.{pins_variables}
use Rattle.board_outputs.proofs.variables.push_chip.Given as goal

abbrev pub invariant-loop-k : goal.invariant-loop-k
invariant-loop-k l = record {
  pins : variables_of l.variables ++ pins_variables l.net_of l.id true (l.first + l.k) (drop l.k l.pins) ≡ variables_of l.fn.variables ++ pins_variables l.net_of l.id true l.first l.pins;
  few : length l.variables ≤ length l.fn.variables + 3 * l.k;
}
