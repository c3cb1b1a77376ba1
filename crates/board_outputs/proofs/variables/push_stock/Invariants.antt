use Rattle.std.proofs.Common.{◌≡◌, ◌+◌, ◌≤◌, ◌++◌, [], false, length, drop}
use Rattle.vcd_text.specs.Variables.{variables_of}
use Rattle.board_build.specs.declared.plan.PlanKind.TheVariants as plans
use Rattle.board_outputs.specs.Variables.{shown_names, pins_variables}
use Rattle.board_outputs.proofs.variables.push_stock.Given as goal

abbrev pub invariant-loop-k : goal.invariant-loop-k
invariant-loop-k l = record {
  pins : variables_of l.variables ++ pins_variables l.net_of l.id false (l.first + l.k) (drop l.k (shown_names [] (plans.Stock l.kind)))
      ≡ variables_of l.fn.variables ++ pins_variables l.net_of l.id false l.first (shown_names [] (plans.Stock l.kind));
  few : length l.variables ≤ length l.fn.variables + l.k;
}
