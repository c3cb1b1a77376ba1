use Rattle.std.proofs.Common.{◌≡◌, ◌-◌, map}
use Rattle.arrayvec.specs.ArrayVec.{array_vec_len}
use Rattle.live_request.specs.Condition.{conditions, conditions_after}
use Rattle.live_request.specs.Rests.{words_left}
use Rattle.live_request.specs.Views.{condition_of}
use Rattle.live_request.proofs.condition.read_conditions.Given as goal

abbrev pub invariant-loop-i : goal.invariant-loop-i
invariant-loop-i l = record {
  reading : conditions_after (map condition_of l.all.items) (16 - l._i) (words_left l.left) ≡ conditions (words_left l.fn.rest);
  few : array_vec_len l.all ≡ l._i;
}
