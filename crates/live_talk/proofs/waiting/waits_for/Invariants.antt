use Rattle.std.proofs.Common.{◌≡◌, drop, map, length}
use Rattle.vcd_text.specs.Variables.{variables_of}
use Rattle.live_request.specs.Views.{condition_of}
use Rattle.live_model.specs.Leg.{waits_for}
use Rattle.live_talk.specs.Waiting.{wait_of}
use Rattle.live_talk.proofs.WaitLemmas.{with_front}
use Rattle.live_talk.proofs.waiting.waits_for.Given as goal

abbrev pub invariant-loop-condition : goal.invariant-loop-condition
invariant-loop-condition l = record {
  found : with_front (map wait_of l.waits.items) (waits_for (variables_of l.variables) (map condition_of (drop l.condition-index l.conditions)))
      ≡ waits_for (variables_of l.variables) (map condition_of l.conditions);
  few : length l.waits.items ≡ l.condition-index;
}
