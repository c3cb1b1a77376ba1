use Rattle.std.proofs.Common.{◌≡◌, ◌≤◌, ◌+◌, ◌*◌, ◌^◌, take}
use Rattle.text_numerals.specs.Numerals.{value_of}
use Rattle.live_request.proofs.number.value.Given as goal

abbrev pub invariant-loop-d : goal.invariant-loop-d
invariant-loop-d l = record {
  value : l.n ≡ value_of 10 (take l.d-index l.digits);
  small : l.n + 4 ≤ 4 * 10 ^ l.d-index;
}
