use Rattle.std.proofs.Common.{◌≡◌, drop}
use Rattle.vcd_text.specs.Variables.{variables_of}
use Rattle.live_model.specs.Leg.{source_or}
use Rattle.live_talk.proofs.names.variable.Given as goal

abbrev pub invariant-loop-variable : goal.invariant-loop-variable
invariant-loop-variable l = source_or (variables_of (drop l.variable-index l.variables)) l.name ≡ source_or (variables_of l.variables) l.name
