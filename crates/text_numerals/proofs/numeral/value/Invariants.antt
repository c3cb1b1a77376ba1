use Rattle.std.proofs.Common.{◌≡◌, ◌<◌, ◌^◌, take}
use Rattle.text_numerals.specs.Numerals.{value_of}
use Rattle.text_numerals.proofs.numeral.value.Given as goal

abbrev pub invariant-loop-d : goal.invariant-loop-d
invariant-loop-d l = record {
  value : l.n ≡ value_of l.radix (take l.d-index l.digits);
  small : l.n < 16 ^ l.d-index;
}
